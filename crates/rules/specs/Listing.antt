-- What a listing writes.
use Rattle.std.specs.Prelude.{ℕ, zero, suc, ◌+◌, ◌*◌, cond, List, [], ◌∷◌, ◌++◌, length, codes, decimal, ◌==◌}
use Rattle.kind.specs.declared.Kind.{Ghosts}
use Rattle.table.specs.declared.node.Node.{Node}
use Rattle.table.specs.Table.{at}
use Rattle.table.specs.Walk.{walked}
use Rattle.rules.specs.Lines.{Line, note, see}

module _ {K R S : Type 0} (k : Ghosts K R S) where
  -- what is listed of x: of a reference its set, unless that is every value; of another point its walk
  abbrev pub point_lines : List (Node R S) → ℕ → List (Line R S)
  point_lines t x =
      cond ((at k t x).link == x) (cond (k.inside k.full (at k t x).set) [] (see x (at k t x).set ∷ []))
      (note x (walked k t x).reference (walked k t x).relation ∷ [])

  -- the lines of n points from x up
  abbrev pub listed_from : List (Node R S) → ℕ → ℕ → List (Line R S)
  listed_from t x zero = []
  listed_from t x (suc n) = point_lines t x ++ listed_from t (suc x) n

  abbrev pub lines_of : List (Node R S) → List (Line R S)
  lines_of t = listed_from t 0 (length t)

  -- a line in bytes: verb and fields, with a tab between two of them and a line feed at the end
  abbrev pub line_text : Line R S → List ℕ
  line_text (note x y g) = codes "note" ++ (9 ∷ decimal x ++ (9 ∷ decimal y ++ (9 ∷ k.word g ++ (10 ∷ []))))
  line_text (see x s) = codes "see" ++ (9 ∷ decimal x ++ (9 ∷ k.label s ++ (10 ∷ [])))

  abbrev pub text_of : List (Line R S) → List ℕ
  text_of [] = []
  text_of (l ∷ ls) = line_text l ++ text_of ls

  abbrev pub listing_of : List (Node R S) → List ℕ
  listing_of t = text_of (lines_of t)

  -- no listing of n points is longer
  abbrev pub bound_of : ℕ → ℕ
  bound_of n = (14 + k.W) * n
