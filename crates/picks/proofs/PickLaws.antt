-- The laws of sets of none, one or all of the numbers below m, of which there are two at least.
use Rattle.std.proofs.Common.{◌≡◌, ℕ, ◌%◌, ◌<◌, ◌≤◌, true, false, eqb, sym, refl, ap, ◌∙◌, ⊎_elim, mod-lt, mod-eq_of_lt, arith}
use Rattle.std.proofs.lemmas.Bool.{cases_eq, eq-eqb, ne_eqb, eqb-true}
use Rattle.kind.specs.Tally.{members, Tallied}
use Rattle.kind.proofs.Members.{members_none, members_all, members_one, exact_tally}
use Rattle.picks.specs.Picks.{pick_has, pick_shift, pick_inside, pick_count}
use Rattle.picks.specs.declared.Pick.{Pick}
use Rattle.picks.specs.declared.Pick.TheVariants.{Nothing, One, Any}

-- tests that follow from each other are equal
pub same_test : (a b c d : ℕ) → (a ≡ b → c ≡ d) → (c ≡ d → a ≡ b) → eqb a b ≡ eqb c d
same_test a b c d to from =
    ⊎_elim (λ e. eq-eqb a b e ∙ sym (eq-eqb c d (to e))) (λ n. ne_eqb a b n ∙ sym (ne_eqb c d (λ e. n (from e)))) (cases_eq a b)

-- one value is not two
pub not_both : (a : ℕ) → eqb a 0 ≡ true → eqb a 1 ≡ true → ⊥
not_both a p q = let z = eqb-true a 0 p in let o = eqb-true a 1 q in omega arith

module _ (m : ℕ) (big : 2 ≤ m) where
  pub residue_low : (a : ℕ) → a % m < m
  residue_low a = mod-lt a (omega arith)

  -- f takes the values to each other, and back undoes it
  pub pick_shift_has : (f back : ℕ → ℕ) → ((v : ℕ) → v < m → f v < m) → ((v : ℕ) → v < m → back (f v) ≡ v) → ((v : ℕ) → v < m → f (back v) ≡ v) → (s : Pick) (v : ℕ) → v < m → pick_has m (pick_shift m f s) v ≡ pick_has m s (back v)
  pick_shift_has f back closed left right Nothing v lt = refl
  pick_shift_has f back closed left right (One a) v lt =
      let is : f (a % m) % m ≡ f (a % m) = mod-eq_of_lt (closed _ (residue_low a)) in
      same_test _ _ _ _ (λ e. sym (left _ (residue_low a)) ∙ ap back (sym is ∙ e)) (λ e. is ∙ ap f e ∙ right v lt)
  pick_shift_has f back closed left right Any v lt = refl

  pub pick_all_inside : (s t : Pick) → ((v : ℕ) → v < m → pick_has m s v ≡ true → pick_has m t v ≡ true) → pick_inside m s t ≡ true
  pick_all_inside Nothing t h = refl
  pick_all_inside (One a) Nothing h = h (a % m) (residue_low a) (eq-eqb _ _ refl)
  pick_all_inside (One a) (One b) h = eq-eqb _ _ (sym (eqb-true _ _ (h (a % m) (residue_low a) (eq-eqb _ _ refl))))
  pick_all_inside (One a) Any h = refl
  pick_all_inside Any Nothing h = h 0 (omega arith) refl
  pick_all_inside Any (One b) h = absurd (not_both (b % m) (h 0 (omega arith) refl) (h 1 (omega arith) refl))
  pick_all_inside Any Any h = refl

  pub pick_count_tells : (s : Pick) → Tallied (members (pick_has m s) m) (pick_count m s)
  pick_count_tells Nothing = let e = members_none (λ _. false) m (λ v lt. refl) in exact_tally _ _ (omega arith)
  pick_count_tells (One a) = let e = members_one (a % m) m (residue_low a) in exact_tally _ _ (omega arith)
  pick_count_tells Any = let e = members_all m in exact_tally _ _ (omega arith)
