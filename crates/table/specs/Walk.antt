-- The walk of a point follows links to a reference, and relates the point to it.
use Rattle.std.specs.Prelude.{◌≡◌, ℕ, zero, suc, ◌<◌, cond, List, length, ◌==◌}
use Rattle.kind.specs.declared.Kind.{Ghosts}
use Rattle.table.specs.declared.node.Node.{Node}
use Rattle.table.specs.declared.walks.Route.{Route}
use Rattle.table.specs.Table.{at}

module _ {K R S : Type 0} (k : Ghosts K R S) where
  abbrev pub here : ℕ → Route R
  here x = record { reference = x; relation = k.unit }

  -- one link more, in front
  abbrev pub linked_by : R → Route R → Route R
  linked_by g w = record { reference = w.reference; relation = k.comp g w.relation }

  -- the walk from x along at most d links: the first relation after the second, and so on
  abbrev pub walk_along : List (Node R S) → ℕ → ℕ → Route R
  walk_along t zero x = here x
  walk_along t (suc d) x = cond ((at k t x).link == x) (here x) (linked_by (at k t x).relation (walk_along t d (at k t x).link))

  -- as many links as the table has points suffice where no link leads round in a circle
  abbrev pub walked : List (Node R S) → ℕ → Route R
  walked t x = walk_along t (length t) x

  -- an assignment of values to the points that keeps every link
  pub record Keeps (t : List (Node R S)) (a : ℕ → ℕ) : Type 0 where
    pub low : (x : ℕ) → a x < k.span
    pub kept : (x : ℕ) → x < length t → a x ≡ k.act (at k t x).relation (a (at k t x).link)

  -- what a walk means: the value of x is the walk's relation applied to the value of the reference
  abbrev pub Carries : List (Node R S) → ℕ → Route R → Type 0
  Carries t x w = (a : ℕ → ℕ) → Keeps t a → a x ≡ k.act w.relation (a w.reference)
