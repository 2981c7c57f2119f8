-- A set that is gathered from 0 on.
use Rattle.std.proofs.Common.{◌≡◌, ℕ, ◌+◌, ◌*◌, ◌%◌, ◌^◌, ◌<◌, Bool, true, false, cond, sym, ap, refl, ◌∙◌, add-one, mod-eq_of_lt, arith}
use Rattle.std.specs.Int.Bits.{bit_or, or_shifted_r}
use Rattle.std.proofs.lemmas.Nat.{pow_below}
use Rattle.conductors.specs.Masks.{mask}
use Rattle.conductors.specs.MaskLaws.{mask_below}

pub mask_zero : (p : ℕ → Bool) → 0 ≡ mask p 0
unfolding mask
mask_zero p = refl

mask_one_more : (p : ℕ → Bool) (v : ℕ) (b : Bool) → b ≡ p v → cond b 1 0 * 2 ^ v + mask p v ≡ mask p (v + 1)
unfolding mask
mask_one_more p v b e = (λ i. cond (e i) 1 0 * 2 ^ v + mask p v) ∙ ap (mask p) (sym (add-one v))

module _ (p : ℕ → Bool) (s v : ℕ) (so_far : s ≡ mask p v) where
  -- v belongs to it, and its bit fits a byte
  pub mask_with : v < 8 → true ≡ p v → bit_or s (1 * 2 ^ v % 256) ≡ mask p (v + 1)
  mask_with h e =
      let whole : 1 * 2 ^ v % 256 ≡ 1 * 2 ^ v = mod-eq_of_lt (omega (arith, pow_below v 8 h)) in
      (λ i. bit_or (so_far i) (whole i)) ∙ or_shifted_r 1 v (mask p v) (mask_below p v) ∙ mask_one_more p v true e

  -- v does not
  pub mask_without : false ≡ p v → s ≡ mask p (v + 1)
  mask_without e = omega (arith, so_far, mask_one_more p v false e)
