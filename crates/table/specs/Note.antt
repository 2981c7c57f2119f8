-- A note x, y, g: the value of x is g applied to the value of y.
use Rattle.std.specs.Prelude.{◌≡◌, ℕ, ◌+◌, min, max, Bool, cond, List, set, Some, None, Option, ◌==◌, nat_le}
use Rattle.kind.specs.declared.Kind.{Ghosts}
use Rattle.table.specs.declared.node.Node.{Node}
use Rattle.table.specs.declared.notes.Meeting.{Meeting}
use Rattle.table.specs.Table.{at, settled}
use Rattle.table.specs.Walk.{walked}

module _ {K R S : Type 0} (k : Ghosts K R S) where
  -- the relation h of two references, r1 = h·r2, where c1 and c2 are the walks of two points and g is noted of these
  abbrev pub combined : R → R → R → R
  combined c1 g c2 = k.comp (k.comp (k.inv c1) g) c2

  abbrev pub empty : S → Bool
  empty s = k.count s == 0

  module _ (t : List (Node R S)) where
    -- what is left to r1 where r1 = h·r2
    abbrev pub left : ℕ → ℕ → R → S
    left r1 r2 h = cond (r1 == r2) (k.meet (at k t r1).set (k.fixed h)) (k.meet (at k t r1).set (k.shift h (at k t r2).set))

    -- the references of x and y, their relation, and what is left to the first
    abbrev pub between : ℕ → ℕ → R → R
    between x y g = combined (walked k t x).relation g (walked k t y).relation

    abbrev pub meeting : ℕ → ℕ → R → Meeting R S
    meeting x y g = record {
      first = (walked k t x).reference;
      second = (walked k t y).reference;
      by = between x y g;
      left = left (walked k t x).reference (walked k t y).reference (between x y g);
    }

    -- the reference `lower` is linked to the reference `upper` by g, and `upper` gets a rank and a set
    abbrev pub hung : ℕ → ℕ → R → ℕ → S → List (Node R S)
    hung lower upper g rank s =
        set (set t lower (record { link = upper; relation = g; rank = (at k t lower).rank; set = (at k t lower).set }))
        upper (record { link = (at k t upper).link; relation = (at k t upper).relation; rank = rank; set = s })

    -- the rank of r1 with r2 below it; 255 is the largest that a node can hold
    abbrev pub raised : ℕ → ℕ → ℕ
    raised r1 r2 = max (at k t r1).rank (min ((at k t r2).rank + 1) 255)

    -- two references are joined: the one with the larger rank stays a reference, the first where the ranks are equal
    abbrev pub joined : Meeting R S → List (Node R S)
    joined m =
        cond (m.first == m.second) (settled k t m.first m.left)
        (cond (nat_le (at k t m.second).rank (at k t m.first).rank)
        (hung m.second m.first (k.inv m.by) (raised m.first m.second) m.left)
        (hung m.first m.second m.by (at k t m.second).rank (k.shift (k.inv m.by) m.left)))

    -- the table with the note, or nothing where the note is contrary
    abbrev pub noted : ℕ → ℕ → R → Option (List (Node R S))
    noted x y g = cond (empty (meeting x y g).left) None (Some (joined (meeting x y g)))

    -- m is the meeting of x and y, its relation read through the word
    pub record Meets (x y : ℕ) (g : R) (m : Meeting R S) : Type 0 where
      pub first : m.first ≡ (walked k t x).reference
      pub second : m.second ≡ (walked k t y).reference
      pub by : k.word m.by ≡ k.word (between x y g)
      pub left_is : m.left ≡ left m.first m.second m.by
