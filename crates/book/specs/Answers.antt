-- What comes of a line on its sheet.
use Rattle.std.specs.Prelude.{◌≡◌, Ok, Err, Result}
use Rattle.kind.specs.declared.Kind.{Ghosts}
use Rattle.sheet.specs.declared.refusal.Refusal.{Refusal}
use Rattle.sheet.specs.Refusals.{refusal_number}
use Rattle.sheet.specs.State.{State}
use Rattle.sheet.specs.Calls.{Call, Outcome, accepted, answered, refused, Taken, stays, called}
use Rattle.sheet.specs.Words.{sheet_read}
use Rattle.lines.specs.Faults.{line_number}
use Rattle.book.specs.Faults.{book_number}
use Rattle.book.specs.Requests.{call_of}
use Rattle.lines.specs.Said.{Said}
use Rattle.book.specs.declared.answer.Reply.{Reply}
use Rattle.book.specs.declared.answer.Reply.TheVariants.{Accepted, Answered}
use Rattle.lines.specs.declared.fault.LineFault.{LineFault}
use Rattle.book.specs.declared.fault.BookFault.{BookFault}

module _ {K R S : Type 0} (k : Ghosts K R S) where
  abbrev pub taken_by : State R S → Result (Call R S) LineFault → Taken R S
  taken_by s (Ok c) = called k s c
  taken_by s (Err e) = stays s (refused (line_number e))

  abbrev pub line_taken : State R S → Said → Taken R S
  line_taken s l = taken_by s (call_of k l)

  -- the line l on the sheet s came to the outcome o and left the sheet s', relations and sets read through their words
  pub record LineStep (s : State R S) (l : Said) (o : Outcome) (s' : State R S) : Type 0 where
    pub outcome : o ≡ (line_taken s l).outcome
    pub left : sheet_read k s' ≡ sheet_read k (line_taken s l).left

-- what the code answers, in the words of the rules
abbrev pub reply_outcome : Reply → Outcome
reply_outcome Accepted = accepted
reply_outcome (Answered a) = answered a

abbrev pub called_outcome : Result Reply Refusal → Outcome
called_outcome (Ok r) = reply_outcome r
called_outcome (Err e) = refused (refusal_number e)

abbrev pub replied : Result Reply BookFault → Outcome
replied (Ok r) = reply_outcome r
replied (Err e) = refused (book_number e)
