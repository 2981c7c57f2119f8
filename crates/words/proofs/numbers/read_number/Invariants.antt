use Rattle.words.proofs.Numerals.{Read}
use Rattle.words.proofs.numbers.read_number.Given as goal

abbrev pub invariant-loop-b : goal.invariant-loop-b
invariant-loop-b l = Read l.field l.b-index l.number
