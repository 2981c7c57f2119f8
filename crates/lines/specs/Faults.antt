-- The number by which a fault is told, and its text.
use Rattle.std.specs.Prelude.{ℕ, List, codes}
use Rattle.kind.specs.declared.fault.WordFault.{WordFault}
use Rattle.kind.specs.declared.fault.WordFault.TheVariants.{NotAWord}
use Rattle.lines.specs.declared.fault.LineFault.{LineFault}
use Rattle.lines.specs.declared.fault.LineFault.TheVariants.{Long, Shape, Point, Word}

abbrev pub word_number : WordFault → ℕ
word_number NotAWord = 4

abbrev pub line_number : LineFault → ℕ
line_number Long = 1
line_number Shape = 2
line_number Point = 3
line_number (Word w) = word_number w

-- a fault in words
abbrev pub line_text : LineFault → List ℕ
line_text Long = codes "the line has more than 64 bytes"
line_text Shape = codes "the sheet or the verb is unknown, or the number of fields is wrong"
line_text Point = codes "a point is not a number from 0 to 255"
line_text (Word NotAWord) = codes "a relation or a set is not a word of the sheet's kind"
