-- What each call answers, and the sheet that it leaves. A refused call leaves the sheet as it was.
use Rattle.std.specs.Prelude.{ℕ, cond, ◌&&◌, List, [], ◌∷◌, Some, None, Option}
use Rattle.kind.specs.declared.Kind.{Ghosts}
use Rattle.table.specs.declared.node.Node.{Node}
use Rattle.table.specs.declared.questions.Answer.{Answer}
use Rattle.table.specs.Table.{at}
use Rattle.table.specs.Walk.{walked}
use Rattle.table.specs.Note.{noted}
use Rattle.table.specs.See.{seen}
use Rattle.table.specs.Ask.{asked}
use Rattle.sheet.specs.State.{Kept, State, on, full}

-- what may be entered: a note x, y, g or a sighting x, s
pub data Line (R S : Type 0) : Type 0 where
  note : ℕ → ℕ → R → Line R S
  see : ℕ → S → Line R S

pub data Call (R S : Type 0) : Type 0 where
  enter : Line R S → Call R S
  ask : ℕ → ℕ → R → Call R S

pub data Outcome : Type 0 where
  accepted : Outcome
  answered : Answer → Outcome
  refused : ℕ → Outcome

-- what came of a call
pub record Taken (R S : Type 0) : Type 0 where
  pub outcome : Outcome
  pub left : State R S

module _ {R S : Type 0} where
  abbrev pub first_of : Line R S → ℕ
  first_of (note x y g) = x
  first_of (see x s) = x

  abbrev pub second_of : Line R S → ℕ
  second_of (note x y g) = y
  second_of (see x s) = x

  abbrev pub stays : State R S → Outcome → Taken R S
  stays s o = record { outcome = o; left = s }

  -- one line more in the innermost trial, if one is open
  abbrev pub keep : Kept R S → List (List (Kept R S)) → List (List (Kept R S))
  keep e [] = []
  keep e (trial ∷ outer) = (e ∷ trial) ∷ outer

module _ {K R S : Type 0} (k : Ghosts K R S) where
  -- the table with the line, or nothing where the line is contrary
  abbrev pub entered : List (Node R S) → Line R S → Option (List (Node R S))
  entered t (note x y g) = noted k t x y g
  entered t (see x s) = seen k t x s

  abbrev pub kept : List (Node R S) → Line R S → Kept R S
  kept t l = record {
    first = (walked k t (first_of l)).reference;
    first_was = at k t (walked k t (first_of l)).reference;
    second = (walked k t (second_of l)).reference;
    second_was = at k t (walked k t (second_of l)).reference;
  }

  abbrev pub takes_in : State R S → Line R S → Option (List (Node R S)) → Taken R S
  takes_in s l None = stays s (refused 6)
  takes_in s l (Some t) =
      cond (full s) (stays s (refused 7))
      (record { outcome = accepted; left = record { number = s.number; table = t; room = s.room; trials = keep (kept s.table l) s.trials } })

  abbrev pub called : State R S → Call R S → Taken R S
  called s (enter l) = cond (on s (first_of l) && on s (second_of l)) (takes_in s l (entered s.table l)) (stays s (refused 5))
  called s (ask x y g) = stays s (cond (on s x && on s y) (answered (asked k s.table x y g)) (refused 5))
