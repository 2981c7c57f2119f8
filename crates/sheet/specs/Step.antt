-- What the contract of a call says: it takes one step by the rules.
use Rattle.std.specs.Prelude.{◌≡◌, ℕ, ◌<◌, ◌≤◌, length, Ok, Err, Result}
use Rattle.kind.specs.declared.Kind.{Ghosts}
use Rattle.table.specs.Look.{Looks}
use Rattle.sheet.specs.declared.refusal.Refusal.{Refusal}
use Rattle.sheet.specs.declared.refusal.Refusal.TheVariants.{OffSheet}
use Rattle.sheet.specs.State.{State}
use Rattle.sheet.specs.Calls.{Call, Outcome, called}
use Rattle.sheet.specs.Words.{sheet_read}

module _ {K R S : Type 0} (k : Ghosts K R S) where
  -- the call c on the sheet s came to the outcome o and left the sheet s', relations and sets read through their words
  pub record Step (s : State R S) (c : Call R S) (o : Outcome) (s' : State R S) : Type 0 where
    pub outcome : o ≡ (called k s c).outcome
    pub left : sheet_read k s' ≡ sheet_read k (called k s c).left

  -- what a look at x gives on the sheet s
  abbrev pub LooksAt : State R S → ℕ → Result S Refusal → Type 0
  LooksAt s x (Ok q) = (x < length s.table) × Looks k s.table x q
  LooksAt s x (Err e) = (length s.table ≤ x) × (e ≡ OffSheet)
