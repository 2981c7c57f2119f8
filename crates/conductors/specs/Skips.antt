-- Leaving one number out, and closing the gap up.
use Rattle.std.specs.Prelude.{◌≡◌, ℕ, suc, ◌<◌, ◌≢◌}
use Rattle.std.proofs.Common.{arith}
use Rattle.std.proofs.lemmas.Bool.Decides.{nat_tests}
use Rattle.conductors.specs.Orders.{past, back}

pub past_zero : (w : ℕ) → past 0 w ≡ suc w
past_zero w = grind (arith, nat_tests)

pub past_apart : (d w : ℕ) → past d w ≢ d
past_apart d w e = grind (arith, nat_tests)

pub past_below : (m d w : ℕ) → w < m → past d w < suc m
past_below m d w h = grind (arith, nat_tests)

pub back_past : (d w : ℕ) → back d (past d w) ≡ w
back_past d w = grind (arith, nat_tests)

pub past_back : (d w : ℕ) → (w ≢ d) → past d (back d w) ≡ w
past_back d w h = grind (arith, nat_tests)

pub back_below : (m d w : ℕ) → d < suc m → w < suc m → (w ≢ d) → back d w < m
back_below m d w l h n = grind (arith, nat_tests)
