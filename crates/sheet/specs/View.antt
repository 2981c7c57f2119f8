-- What the code holds and answers, in the words of the rules.
use Rattle.std.specs.Prelude.{◌/◌, min, [], length, take, Ok, Err, Result}
use Rattle.table.specs.declared.questions.Answer.{Answer}
use Rattle.sheet.specs.declared.refusal.Refusal.{Refusal}
use Rattle.sheet.specs.declared.sheet.Sheet.{Sheet}
use Rattle.sheet.specs.State.{State}
use Rattle.sheet.specs.Calls.{Outcome, accepted, answered, refused}
use Rattle.sheet.specs.Refusals.{refusal_number}

-- a line of a trial takes two entries of the log; no trial can be opened yet
abbrev pub view : {K R S : Type 0} → Sheet K R S → State R S
view s = record { number = s.number; table = take 256 s.nodes.now; room = min (length s.log.now) 512 / 2; trials = [] }

abbrev pub entering : Result (Unit {0}) Refusal → Outcome
entering (Ok u) = accepted
entering (Err e) = refused (refusal_number e)

abbrev pub asking : Result Answer Refusal → Outcome
asking (Ok a) = answered a
asking (Err e) = refused (refusal_number e)
