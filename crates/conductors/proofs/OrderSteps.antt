-- The definitions of orders, a step at a time, at n and n - 1.
use Rattle.std.proofs.Common.{◌≡◌, ℕ, zero, suc, ◌+◌, ◌-◌, ◌*◌, ◌/◌, ◌%◌, ◌<◌, List, [], ◌∷◌, get_or, sym, refl, ◌∙◌, add-one, arith}
use Rattle.std.proofs.lemmas.Bool.{cond-true, cond-false, eq-eqb, ne_eqb}
use Rattle.conductors.specs.Orders.{past, back, takes, brings, numbered}

less : (m : ℕ) → m ≡ suc m - 1
less m = omega arith

pub takes_first : (n k : ℕ) → 0 < n → takes n k 0 ≡ k % n
unfolding takes
takes_first zero k h = absurd (omega arith)
takes_first (suc m) k h = refl

pub takes_next : (n k v : ℕ) → 0 < n → 0 < v → takes n k v ≡ past (k % n) (takes (n - 1) (k / n) (v - 1))
unfolding takes
takes_next zero k v h p = absurd (omega arith)
takes_next (suc m) k zero h p = absurd (omega arith)
takes_next (suc m) k (suc v) h p = λ i. past (k % suc m) (takes (less m i) (k / suc m) (less v i))

pub brings_first : (n k w : ℕ) → 0 < n → w ≡ k % n → brings n k w ≡ 0
unfolding brings
brings_first zero k w h e = absurd (omega arith)
brings_first (suc m) k w h e = cond-true _ _ _ (eq-eqb w (k % suc m) e)

pub brings_next : (n k w : ℕ) → 0 < n → (w ≡ k % n → ⊥) → brings n k w ≡ brings (n - 1) (k / n) (back (k % n) w) + 1
unfolding brings
brings_next zero k w h p = absurd (omega arith)
brings_next (suc m) k w h p =
    cond-false _ _ _ (ne_eqb w (k % suc m) p) ∙ sym (add-one _) ∙ (λ i. brings (less m i) (k / suc m) (back (k % suc m) w) + 1)

pub numbered_none : (n : ℕ) (f : ℕ → ℕ) → n ≡ 0 → numbered n f ≡ 0
unfolding numbered
numbered_none zero f e = refl
numbered_none (suc m) f e = absurd (omega arith)

pub numbered_next : (n : ℕ) (f : ℕ → ℕ) → 0 < n → numbered n f ≡ f 0 % n + n * numbered (n - 1) (λ v. back (f 0) (f (suc v)))
unfolding numbered
numbered_next zero f h = absurd (omega arith)
numbered_next (suc m) f h = λ i. f 0 % suc m + suc m * numbered (less m i) (λ v. back (f 0) (f (suc v)))

-- four places, of which the first is left out
pub rest_places : (p : List ℕ) (a b c : ℕ) → a ≡ back (get_or p 0 0) (get_or p 1 0) → b ≡ back (get_or p 0 0) (get_or p 2 0) → c ≡ back (get_or p 0 0) (get_or p 3 0) → (v : ℕ) → v < 3 → get_or (a ∷ b ∷ c ∷ 0 ∷ []) v 0 ≡ back (get_or p 0 0) (get_or p (suc v) 0)
rest_places p a b c ea eb ec zero h = ea
rest_places p a b c ea eb ec (suc zero) h = eb
rest_places p a b c ea eb ec (suc (suc zero)) h = ec
rest_places p a b c ea eb ec (suc (suc (suc v))) h = absurd (omega arith)
