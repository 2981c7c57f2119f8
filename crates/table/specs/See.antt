-- A sighting x, s: the value of x belongs to s.
use Rattle.std.specs.Prelude.{◌≡◌, ℕ, cond, List, Some, None, Option}
use Rattle.kind.specs.declared.Kind.{Ghosts}
use Rattle.kind.specs.Same.{SameMembers}
use Rattle.table.specs.declared.node.Node.{Node}
use Rattle.table.specs.declared.sightings.Narrowing.{Narrowing}
use Rattle.table.specs.Table.{at, settled}
use Rattle.table.specs.Walk.{walked}
use Rattle.table.specs.Note.{empty}

module _ {K R S : Type 0} (k : Ghosts K R S) (t : List (Node R S)) where
  -- the reference of x, and what is left to it
  abbrev pub narrowing : ℕ → S → Narrowing S
  narrowing x s = record {
    reference = (walked k t x).reference;
    left = k.meet (at k t (walked k t x).reference).set (k.shift (k.inv (walked k t x).relation) s);
  }

  -- the table with the sighting, or nothing where the sighting is contrary
  abbrev pub seen : ℕ → S → Option (List (Node R S))
  seen x s = cond (empty k (narrowing x s).left) None (Some (settled k t (narrowing x s).reference (narrowing x s).left))

  -- n is the narrowing by the sighting, its set read through its members
  pub record Narrows (x : ℕ) (s : S) (n : Narrowing S) : Type 0 where
    pub reference : n.reference ≡ (narrowing x s).reference
    pub left : SameMembers k n.left (narrowing x s).left
