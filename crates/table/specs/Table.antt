-- The points of a table.
use Rattle.std.specs.Prelude.{ℕ, zero, suc, List, [], ◌∷◌, slice_index_or, slice_set}
use Rattle.kind.specs.declared.Kind.{Ghosts}
use Rattle.table.specs.declared.node.Node.{Node}

module _ {K R S : Type 0} (k : Ghosts K R S) where
  -- point x of a new table: a reference with the identity, rank 0 and every value
  abbrev pub fresh : ℕ → Node R S
  fresh x = record { link = x; relation = k.unit; rank = 0; set = k.full }

  -- n points of a new table, from x up
  abbrev pub fresh_from : ℕ → ℕ → List (Node R S)
  fresh_from x zero = []
  fresh_from x (suc n) = fresh x ∷ fresh_from (suc x) n

  -- the node of x, which is that of a new point where the table has none
  abbrev pub at : List (Node R S) → ℕ → Node R S
  at t x = slice_index_or t x (fresh x)

  -- reference r gets the set s
  abbrev pub settled : List (Node R S) → ℕ → S → List (Node R S)
  settled t r s = slice_set t r (record { link = (at t r).link; relation = (at t r).relation; rank = (at t r).rank; set = s })
