-- Successions of calls on one sheet from new, and what each of their calls must come to.
use Rattle.std.specs.Prelude.{◌≡◌, ℕ, ◌≤◌, List, [], ◌∷◌, length}
use Rattle.kind.specs.declared.Kind.{Ghosts}
use Rattle.rules.specs.Listing.{listing_of}
use Rattle.rules.specs.State.{State, new_sheet}
use Rattle.rules.specs.Calls.{Call, Outcome, called}
use Rattle.rules.specs.Words.{sheet_read}
use Rattle.rules.specs.Standing.{Standing, nothing_stands, stands_after}
use Rattle.rules.specs.Right.{Right}

-- one call of a succession: what was called, what came of it, and the sheet that it left
pub record Event (R S : Type 0) : Type 0 where
  pub call : Call R S
  pub outcome : Outcome
  pub left : State R S

module _ {R S : Type 0} where
  -- the sheet that a succession leaves, and what stands then
  abbrev pub final : State R S → List (Event R S) → State R S
  final s [] = s
  final s (e ∷ es) = final e.left es

  abbrev pub standing : Standing R S → List (Event R S) → Standing R S
  standing st [] = st
  standing st (e ∷ es) = standing (stands_after st e.call e.outcome) es

module _ {K R S : Type 0} (k : Ghosts K R S) where
  -- the call c on the sheet s came to the outcome o and left the sheet s', as the rules say, relations and sets read through
  -- their words
  pub record Step (s : State R S) (c : Call R S) (o : Outcome) (s' : State R S) : Type 0 where
    pub outcome : o ≡ (called k s c).outcome
    pub left : sheet_read k s' ≡ sheet_read k (called k s c).left

  abbrev pub Succession : State R S → List (Event R S) → Type 0
  Succession s [] = Unit {0}
  Succession s (e ∷ es) = Step s e.call e.outcome e.left × Succession e.left es

  module _ (n number room : ℕ) where
    -- each call of a succession is right by what stood before it
    abbrev pub AllRight : Standing R S → List (Event R S) → Type 0
    AllRight st [] = Unit {0}
    AllRight st (e ∷ es) = Right k n number room st e.call e.outcome × AllRight (stands_after st e.call e.outcome) es

    -- whatever succession of calls follows on the new sheet s
    abbrev pub WhateverFollows : State R S → Type 0
    WhateverFollows s = (es : List (Event R S)) → Succession s es → AllRight nothing_stands es

    -- s is what some succession from a new sheet has left, and st is what then stands
    pub record Reached (s : State R S) (st : Standing R S) : Type 0 where
      pub few : n ≤ 256
      pub start : State R S
      pub new : sheet_read k start ≡ sheet_read k (new_sheet k number n room)
      pub events : List (Event R S)
      pub ran : Succession start events
      pub left : final start events ≡ s
      pub stood : standing nothing_stands events ≡ st

  -- whatever succession has led to s, the call is right, and s' is reached in its turn
  abbrev pub RightHere : State R S → Call R S → Outcome → State R S → Type 0
  RightHere s c o s' =
      (n number room : ℕ) (st : Standing R S) → Reached n number room s st
      → Right k n number room st c o × Reached n number room s' (stands_after st c o)

  -- what every call promises: it takes one step by the rules, and is right whatever succession has led to it
  pub record Makes (s : State R S) (c : Call R S) (o : Outcome) (s' : State R S) : Type 0 where
    pub step : Step s c o s'
    pub right : RightHere s c o s'

  -- whatever succession has led to s, its listing is no longer than b
  abbrev pub Bounded : State R S → ℕ → Type 0
  Bounded s b = (n number room : ℕ) (st : Standing R S) → Reached n number room s st → length (listing_of k s.table) ≤ b
