-- How long a listing can be.
use Rattle.std.proofs.Common.{◌≡◌, ℕ, zero, suc, ◌+◌, ◌<◌, ◌≤◌, eqb, List, [], ◌∷◌, ◌++◌, length, decimal, sym, subst, mul-suc, arith, length-append}
use Rattle.std.proofs.lemmas.Fmt.{length-decimal-le}
use Rattle.std.proofs.lemmas.Bool.{cond_both}
use Rattle.kind.specs.declared.Kind.{Ghosts}
use Rattle.kind.proofs.Lawful.{Worded}
use Rattle.table.specs.declared.node.Node.{Node}
use Rattle.table.specs.Table.{at}
use Rattle.table.specs.Walk.{walked}
use Rattle.rules.specs.Lines.{Line, note, see}
use Rattle.rules.specs.Listing.{listed_from, line_text, text_of, listing_of, bound_of}
use Rattle.rules.specs.Standing.{On}

-- the decimal of a point
point_short : (x : ℕ) → x < 256 → length (decimal x) ≤ 3
point_short x low = length-decimal-le 3 x (omega arith) (omega arith) (omega arith)

module _ {K R S : Type 0} (k : Ghosts K R S) (worded : Worded k) where
  -- verb, two points and a relation, three tabs and a line feed; a sighting has fewer
  line_short : (l : Line R S) → On 256 l → length (line_text k l) ≤ 14 + k.W
  line_short (note x y g) on =
      simp length-append (omega (arith, point_short x on.0, point_short y on.1, (worded.word_length g).1))
  line_short (see x s) on = simp length-append (omega (arith, point_short x on.0, (worded.label_length s).1))

  -- one line in front, for one point more
  one_more : (l : Line R S) (ls : List (Line R S)) (m : ℕ) → On 256 l → length (text_of k ls) ≤ bound_of k m
      → length (text_of k (l ∷ ls)) ≤ bound_of k (suc m)
  one_more l ls m on rest = simp (length-append, mul-suc) (omega (arith, line_short l on))

  module _ (n : ℕ) (few : n ≤ 256) (t : List (Node R S)) (size : length t ≡ n) (ends : (x : ℕ) → x < n → (walked k t x).reference < n) where
    listed_short : (x m : ℕ) → x + m ≤ n → length (text_of k (listed_from k t x m)) ≤ bound_of k m
    listed_short x zero h = omega arith
    listed_short x (suc m) h =
        let more = listed_from k t (suc x) m in
        let rest = listed_short (suc x) m (omega arith) in
        let low : x < 256 = omega arith in
        let Short : List (Line R S) → Type 0 = λ ls. length (text_of k (ls ++ more)) ≤ bound_of k (suc m) in
        let sighting = see x (at k t x).set in
        let w = walked k t x in
        cond_both (eqb (at k t x).link x) _ _ Short
        (λ e.
        cond_both (k.inside k.full (at k t x).set) [] (sighting ∷ []) Short
        (λ f. rw mul-suc (omega arith)) (λ f. one_more sighting more m (low, low) rest))
        (λ e. one_more (note x w.reference w.relation) more m (low, omega (arith, ends x (omega arith))) rest)

    pub listing_bound : length (listing_of k t) ≤ bound_of k n
    listing_bound = subst (λ m. length (text_of k (listed_from k t 0 m)) ≤ bound_of k n) (sym size) (listed_short 0 n (omega arith))
