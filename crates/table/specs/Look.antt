-- A look at a point gives the set of values that it may still have.
use Rattle.std.specs.Prelude.{◌≡◌, ℕ, false, List}
use Rattle.kind.specs.declared.Kind.{Ghosts}
use Rattle.kind.specs.Same.{SameMembers}
use Rattle.table.specs.declared.node.Node.{Node}
use Rattle.table.specs.Table.{at}
use Rattle.table.specs.Walk.{walked}
use Rattle.table.specs.Note.{empty}

module _ {K R S : Type 0} (k : Ghosts K R S) (t : List (Node R S)) (x : ℕ) where
  abbrev pub looked : S
  looked = k.shift (walked k t x).relation (at k t (walked k t x).reference).set

  -- s is what a look gives: a set is settled by its members, and by its word unless it is empty
  pub record Looks (s : S) : Type 0 where
    pub members : SameMembers k s looked
    pub label : empty k s ≡ false → k.label s ≡ k.label looked
