-- Equations that are tried on every number below n.
use Rattle.std.proofs.Common.{◌≡◌, ℕ, zero, suc, ◌<◌, Bool, true, ◌&&◌, eqb, refl}
use Rattle.std.proofs.lemmas.Bool.Decides.{Decides-eqb, Decides-below_and}

unfoldable pub tried : (ℕ → ℕ) → (ℕ → ℕ) → ℕ → Bool
tried f g zero = true
tried f g (suc n) = eqb (f n) (g n) && tried f g n

pub tried_all : (f g : ℕ → ℕ) (n : ℕ) → tried f g n ≡ true → (k : ℕ) → k < n → f k ≡ g k
unfolding tried
tried_all f g n = (Decides-below_and (λ k. eqb (f k) (g k)) (λ k. f k ≡ g k) (tried f g) (λ k. Decides-eqb _ _) refl (λ _. refl) n).0
