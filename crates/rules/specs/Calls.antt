-- What each call answers, and the sheet that it leaves. A refused call leaves the sheet as it was.
use Rattle.std.specs.Prelude.{ℕ, ◌+◌, cond, ◌&&◌, List, [], ◌∷◌, length, Some, None, Option, ◌==◌, nat_le}
use Rattle.kind.specs.declared.Kind.{Ghosts}
use Rattle.table.specs.declared.node.Node.{Node}
use Rattle.table.specs.declared.questions.Answer.{Answer}
use Rattle.table.specs.Ask.{asked}
use Rattle.page.specs.Filled.{Filled, wrote}
use Rattle.rules.specs.Lines.{Line, first_of, second_of, entered}
use Rattle.rules.specs.Listing.{listing_of}
use Rattle.rules.specs.State.{Kept, State, on, in_trial, full, with_table}
use Rattle.rules.specs.Trials.{kept, keep, undo, merged}

-- an adoption and a retraction are handed a slip, by the sheet number that it bears; a listing is handed a page
pub data Call (R S : Type 0) : Type 0 where
  enter : Line R S → Call R S
  ask : ℕ → ℕ → R → Call R S
  suppose : Call R S
  adopt : ℕ → Call R S
  retract : ℕ → Call R S
  listing : Filled → Call R S

-- a supposal hands out a slip that bears a number; a listing leaves a page
pub data Outcome : Type 0 where
  accepted : Outcome
  answered : Answer → Outcome
  handed : ℕ → Outcome
  listed : Filled → Outcome
  refused : ℕ → Outcome

-- what came of a call
pub record Taken (R S : Type 0) : Type 0 where
  pub outcome : Outcome
  pub left : State R S

module _ {R S : Type 0} where
  abbrev pub stays : State R S → Outcome → Taken R S
  stays s o = record { outcome = o; left = s }

  abbrev pub adopts : State R S → List (List (Kept R S)) → Taken R S
  adopts s [] = stays s (refused 10)
  adopts s (trial ∷ outer) = record { outcome = accepted; left = with_table s s.table (merged trial outer) }

  abbrev pub retracts : State R S → List (List (Kept R S)) → Taken R S
  retracts s [] = stays s (refused 10)
  retracts s (trial ∷ outer) = record { outcome = accepted; left = with_table s (undo trial s.table) outer }

-- a page takes a text that fits its remainder
abbrev pub lists : Filled → List ℕ → Outcome
lists p text = cond (nat_le (p.mark + length text) (length p.bytes)) (listed (wrote p text)) (refused 11)

module _ {K R S : Type 0} (k : Ghosts K R S) where
  abbrev pub takes_in : State R S → Line R S → Option (List (Node R S)) → Taken R S
  takes_in s l None = stays s (refused 6)
  takes_in s l (Some t) =
      cond (full s) (stays s (refused 7)) (record { outcome = accepted; left = with_table s t (keep (kept k s.table l) s.trials) })

  abbrev pub called : State R S → Call R S → Taken R S
  called s (enter l) = cond (on s (first_of l) && on s (second_of l)) (takes_in s l (entered k s.table l)) (stays s (refused 5))
  called s (ask x y g) = stays s (cond (on s x && on s y) (answered (asked k s.table x y g)) (refused 5))
  called s suppose =
      cond (in_trial s) (stays s (refused 8)) (record { outcome = handed s.number; left = with_table s s.table ([] ∷ s.trials) })
  called s (adopt slip) = cond (slip == s.number) (adopts s s.trials) (stays s (refused 9))
  called s (retract slip) = cond (slip == s.number) (retracts s s.trials) (stays s (refused 9))
  called s (listing p) = stays s (cond (in_trial s) (refused 8) (lists p (listing_of k s.table)))
