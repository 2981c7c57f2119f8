-- A sheet as the rules have it.
use Rattle.std.specs.Prelude.{ℕ, ◌+◌, Bool, true, false, ◌&&◌, List, [], ◌∷◌, length, nat_le, nat_lt}
use Rattle.kind.specs.declared.Kind.{Ghosts}
use Rattle.table.specs.declared.node.Node.{Node}
use Rattle.table.specs.Table.{fresh_from}

-- what the log keeps of a line that is accepted in a trial: its first reference, then its second, with their earlier nodes
pub record Kept (R S : Type 0) : Type 0 where
  pub first : ℕ
  pub first_was : Node R S
  pub second : ℕ
  pub second_was : Node R S

-- a sheet: its number, its points, how many lines its log has room for, and what the log keeps of each open trial,
-- the innermost trial first and in a trial the newest line first
pub record State (R S : Type 0) : Type 0 where
  pub number : ℕ
  pub table : List (Node R S)
  pub room : ℕ
  pub trials : List (List (Kept R S))

abbrev pub new_sheet : {K R S : Type 0} → Ghosts K R S → ℕ → ℕ → ℕ → State R S
new_sheet k number points room = record { number = number; table = fresh_from k 0 points; room = room; trials = [] }

module _ {R S : Type 0} where
  abbrev pub on : State R S → ℕ → Bool
  on s x = nat_lt x (length s.table)

  abbrev pub any_open : List (List (Kept R S)) → Bool
  any_open [] = false
  any_open (trial ∷ outer) = true

  abbrev pub in_trial : State R S → Bool
  in_trial s = any_open s.trials

  abbrev pub lines_kept : List (List (Kept R S)) → ℕ
  lines_kept [] = 0
  lines_kept (trial ∷ outer) = length trial + lines_kept outer

  -- the log has no room for one more line of a trial
  abbrev pub full : State R S → Bool
  full s = in_trial s && nat_le s.room (lines_kept s.trials)
