-- The lines of a listing say what its table says.
use Rattle.std.proofs.Common.{◌≡◌, ℕ, zero, suc, ◌+◌, ◌<◌, ◌≤◌, eqb, ◌↔◌, List, [], ◌∷◌, ◌++◌, length, sym, ap, ◌∙◌, subst, inl, inr, arith}
use Rattle.std.specs.List.{AllByRecursion}
use Rattle.std.proofs.ByRecursion.{All-append}
use Rattle.std.proofs.lemmas.Bool.{eqb-true, eqb-false, cases_eq, cond_both}
use Rattle.kind.specs.declared.Kind.{Ghosts}
use Rattle.kind.proofs.Lawful.{Lawful}
use Rattle.table.specs.declared.node.Node.{Node}
use Rattle.table.specs.Table.{at}
use Rattle.table.specs.Walk.{walked}
use Rattle.rules.specs.Lines.{Line}
use Rattle.rules.specs.Listing.{point_lines, listed_from, lines_of}
use Rattle.rules.specs.Standing.{Assigns, Obeys, ObeysAll, On}
use Rattle.rules.proofs.Values.{In}
use Rattle.rules.proofs.Tables.{Sound, Reads, walked_ends, walked_says, spread, spread_root, spread_reads}

-- what holds of each element of two lists that are joined, part by part
pub all_parts : {X : Type 0} (P : X → Type 0) (xs ys : List X) → AllByRecursion P (xs ++ ys) → AllByRecursion P xs × AllByRecursion P ys
all_parts P [] ys h = (tt, h)
all_parts P (x ∷ xs) ys h = let rest = all_parts P xs ys h.1 in ((h.0, rest.0), rest.1)

module _ {K R S : Type 0} (k : Ghosts K R S) (laws : Lawful k) (n : ℕ) (t : List (Node R S)) (sound : Sound k n t) where
  -- what a listing says of x
  abbrev Says : (ℕ → ℕ) → ℕ → Type 0
  Says a x =
      ((at k t x).link ≡ x → In k (at k t x).set (a x))
      × (¬ ((at k t x).link ≡ x) → a x ≡ k.act (walked k t x).relation (a (walked k t x).reference))

  point_on : (x : ℕ) → x < n → AllByRecursion (On n) (point_lines k t x)
  point_on x h = cond_both (eqb (at k t x).link x) _ _ (AllByRecursion (On n))
      (λ e. cond_both (k.inside k.full (at k t x).set) _ _ (AllByRecursion (On n)) (λ w. tt) (λ w. ((h, h), tt)))
      (λ e. ((h, (walked_ends k laws n t sound x h).on), tt))

  module _ (a : ℕ → ℕ) (small : Assigns k n a) where
    point_down : Reads k n t a → (x : ℕ) → x < n → ObeysAll k a (point_lines k t x)
    point_down reads x h = cond_both (eqb (at k t x).link x) _ _ (ObeysAll k a)
        (λ e. cond_both (k.inside k.full (at k t x).set) _ _ (ObeysAll k a) (λ w. tt) (λ w. ((reads.held x h (eqb-true _ _ e)).held, tt)))
        (λ e. (walked_says k laws n t sound a small reads x h, tt))

    point_up : (x : ℕ) → x < n → ObeysAll k a (point_lines k t x) → Says a x
    point_up x h = cond_both (eqb (at k t x).link x) _ _ (λ ls. ObeysAll k a ls → Says a x)
        (λ e. cond_both (k.inside k.full (at k t x).set) _ _ (λ ls. ObeysAll k a ls → Says a x)
        (λ w obeyed. (
          λ root. record { value = small x h; held = laws.inside_all _ _ w (a x) (small x h) (laws.full_has (a x) (small x h)) },
          λ away. absurd (away (eqb-true _ _ e)),
        ))
        (λ w obeyed. (λ root. record { value = small x h; held = obeyed.0 }, λ away. absurd (away (eqb-true _ _ e)))))
        (λ e obeyed. (λ root. absurd (eqb-false _ _ e root), λ away. obeyed.0))

  -- what holds of the lines of each point holds of a listing, and conversely
  listed_down : (P : Line R S → Type 0) → ((x : ℕ) → x < n → AllByRecursion P (point_lines k t x)) → (x m : ℕ) → x + m ≤ n → AllByRecursion P (listed_from k t x m)
  listed_down P each x zero h = tt
  listed_down P each x (suc m) h = All-append P _ _ (each x (omega arith)) (listed_down P each (suc x) m (omega arith))

  listed_up : (P : Line R S → Type 0) (x m : ℕ) → x + m ≤ n → AllByRecursion P (listed_from k t x m) → (y : ℕ) → x ≤ y → y < x + m → AllByRecursion P (point_lines k t y)
  listed_up P x zero h all y from to = absurd (omega arith)
  listed_up P x (suc m) h all y from to =
      let parts = all_parts P (point_lines k t x) (listed_from k t (suc x) m) all in
      elim (cases_eq y x) [
        | inl e ↦ subst (λ z. AllByRecursion P (point_lines k t z)) (sym e) parts.0
        | inr ne ↦ listed_up P (suc x) m (omega arith) parts.1 y (omega arith) (omega arith)
      ]

  -- an assignment of which the listing is true is what its references spread, and so the table reads it
  module _ (a : ℕ → ℕ) (says : (x : ℕ) → x < n → Says a x) where
    abbrev b : ℕ → ℕ
    b = spread k laws n t sound a

    picks : (x : ℕ) → x < n → (at k t x).link ≡ x → In k (at k t x).set (a x)
    picks x h e = (says x h).0 e

    b_is : (x : ℕ) → x < n → b x ≡ a x
    b_is x h = elim (cases_eq (at k t x).link x) [ inl e ↦ spread_root k laws n t sound a picks x h e | inr ne ↦ sym ((says x h).1 ne) ]

    says_reads : Reads k n t a
    says_reads = record {
      edge = λ x h. sym (b_is x h) ∙ (spread_reads k laws n t sound a picks).edge x h ∙ ap (k.act (at k t x).relation) (b_is _ (sound.linked x h));
      held = picks;
    }

  pub listing_says : (a : ℕ → ℕ) → Assigns k n a → ObeysAll k a (lines_of k t) ↔ Reads k n t a
  listing_says a small =
      let all : 0 + length t ≤ n = omega (arith, sound.size) in (
        λ obeys. says_reads a (λ x h. point_up a small x h (listed_up (Obeys k a) 0 (length t) all obeys x (omega arith) (omega (arith, sound.size)))),
        λ reads. listed_down (Obeys k a) (point_down a small reads) 0 (length t) all,
      )

  pub listing_on : AllByRecursion (On n) (lines_of k t)
  listing_on = listed_down (On n) point_on 0 (length t) (omega (arith, sound.size))
