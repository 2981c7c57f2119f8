-- The number by which a fault is told.
use Rattle.std.specs.Prelude.{ℕ}
use Rattle.lines.specs.Faults.{line_number}
use Rattle.sheet.specs.Refusals.{refusal_number}
use Rattle.book.specs.declared.fault.BookFault.{BookFault}
use Rattle.book.specs.declared.fault.BookFault.TheVariants.{Read, Call}

abbrev pub book_number : BookFault → ℕ
book_number (Read l) = line_number l
book_number (Call r) = refusal_number r
