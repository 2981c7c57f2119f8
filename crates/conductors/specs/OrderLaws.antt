-- Each number stands for an order of n conductors.
use Rattle.std.specs.Prelude.{◌≡◌, ℕ, zero, suc, ◌/◌, ◌%◌, ◌<◌, refl}
use Rattle.std.proofs.Common.{sym, ap, ◌∙◌, ⊎_elim, mod-lt, arith}
use Rattle.std.proofs.Math.Nat.{zero-mod, zero-div}
use Rattle.std.proofs.lemmas.Bool.{cases_eq, eq-eqb, ne_eqb, cond-true, cond-false}
use Rattle.conductors.specs.Orders.{past, back, takes, brings}
use Rattle.conductors.specs.Skips.{past_zero, past_apart, past_below, back_past, past_back, back_below}

pub takes_below : (n k v : ℕ) → v < n → takes n k v < n
unfolding takes
takes_below zero k v h = absurd (omega arith)
takes_below (suc m) k zero h = mod-lt k h
takes_below (suc m) k (suc v) h = past_below m _ _ (takes_below m (k / suc m) v (omega arith))

pub brings_takes : (n k v : ℕ) → v < n → brings n k (takes n k v) ≡ v
unfolding takes brings
brings_takes zero k v h = absurd (omega arith)
brings_takes (suc m) k zero h = cond-true _ _ _ (eq-eqb (k % suc m) (k % suc m) refl)
brings_takes (suc m) k (suc v) h =
    let d = k % suc m in
    let w = takes m (k / suc m) v in
    cond-false _ _ _ (ne_eqb (past d w) d (past_apart d w))
    ∙ ap (λ x. suc (brings m (k / suc m) x)) (back_past d w)
    ∙ ap suc (brings_takes m (k / suc m) v (omega arith))

pub brings_below : (n k w : ℕ) → w < n → brings n k w < n
unfolding brings
brings_below zero k w h = absurd (omega arith)
brings_below (suc m) k w h =
    let d = k % suc m in
    ⊎_elim (λ (e : w ≡ d). rw (cond-true _ _ _ (eq-eqb w d e)) (omega arith))
    (λ (n : w ≡ d → ⊥).
    let low = brings_below m (k / suc m) (back d w) (back_below m d w (mod-lt k (omega arith)) h n) in
    rw (cond-false _ _ _ (ne_eqb w d n)) (omega arith))
    (cases_eq w d)

pub takes_brings : (n k w : ℕ) → w < n → takes n k (brings n k w) ≡ w
unfolding takes brings
takes_brings zero k w h = absurd (omega arith)
takes_brings (suc m) k w h =
    let d = k % suc m in
    ⊎_elim (λ (e : w ≡ d). ap (takes (suc m) k) (cond-true _ _ _ (eq-eqb w d e)) ∙ sym e)
    (λ (n : w ≡ d → ⊥).
    ap (takes (suc m) k) (cond-false _ _ _ (ne_eqb w d n))
    ∙ ap (past d) (takes_brings m (k / suc m) (back d w) (back_below m d w (mod-lt k (omega arith)) h n)) ∙ past_back d w n)
    (cases_eq w d)

pub takes_apart : (n k u v : ℕ) → u < n → v < n → takes n k u ≡ takes n k v → u ≡ v
takes_apart n k u v hu hv e = sym (brings_takes n k u hu) ∙ ap (brings n k) e ∙ brings_takes n k v hv

pub brings_apart : (n k u v : ℕ) → u < n → v < n → brings n k u ≡ brings n k v → u ≡ v
brings_apart n k u v hu hv e = sym (takes_brings n k u hu) ∙ ap (takes n k) e ∙ takes_brings n k v hv

-- the order of number 0 leaves all in place
pub takes_unit : (n v : ℕ) → v < n → takes n 0 v ≡ v
unfolding takes
takes_unit zero v h = refl
takes_unit (suc m) zero h = zero-mod (suc m)
takes_unit (suc m) (suc v) h =
    (λ i. past (zero-mod (suc m) i) (takes m (zero-div (suc m) i) v)) ∙ past_zero _ ∙ ap suc (takes_unit m v (omega arith))
