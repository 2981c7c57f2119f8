-- A sheet as a reader sees it: relations and sets are read through their words.
use Rattle.std.specs.Prelude.{ℕ, List, map}
use Rattle.kind.specs.declared.Kind.{Ghosts}
use Rattle.table.specs.Words.{node_read, table_read}
use Rattle.sheet.specs.State.{Kept, State}

module _ {K R S : Type 0} (k : Ghosts K R S) where
  abbrev pub kept_read : Kept R S → Kept (List ℕ) (List ℕ)
  kept_read e = record { first = e.first; first_was = node_read k e.first_was; second = e.second; second_was = node_read k e.second_was }

  abbrev pub sheet_read : State R S → State (List ℕ) (List ℕ)
  sheet_read s = record { number = s.number; table = table_read k s.table; room = s.room; trials = map (map kept_read) s.trials }
