use Rattle.std.proofs.Common.{◌≡◌, ℕ, ◌<◌, ◌∷◌, ◌++◌, codes, decimal, refl, ap, arith, lit<}
use lib.Count.{ones}
use Rattle.conductors.specs.Orders.{takes, brings, numbered}
use Rattle.conductors.specs.Masks.{mask}
use Rattle.conductors.specs.OrderWords.{digits}
use Rattle.drums.specs.Drums.{inverse251}
use Rattle.cases.proofs.Numerals.{numeral, decimal_is}
use Rattle.cases.proofs.worked.Goals as goal

pub returns : goal.returns
unfolding takes brings numbered mask digits ones inverse251
returns c =
    let pair : (a b : ℕ) → a < 1000 → b < 1000 → decimal a ++ (124 ∷ decimal b) ≡ numeral 3 a ++ (124 ∷ numeral 3 b) =
    λ a b p q i. decimal_is 3 a (lit< tt) p (omega arith) i ++ (124 ∷ decimal_is 3 b (lit< tt) q (omega arith) i) in
    let lowest : 45 ∷ decimal 2147483648 ≡ codes "-2147483648" = ap (λ ds. 45 ∷ ds) (decimal_is 10 2147483648 (lit< tt) (lit< tt) (lit< tt)) in
    record {
      orders_read = refl;
      sets_read = refl;
      order_after = refl;
      order_before = refl;
      order_inverse = refl;
      drum = pair 2 3 (lit< tt) (lit< tt);
      drum_inverse = pair 126 124 (lit< tt) (lit< tt);
      drum_still = decimal_is 3 248 (lit< tt) (lit< tt) (lit< tt);
      drum_none_still = refl;
      lowest = lowest;
      lowest_inverse = lowest;
      past_highest = lowest;
      loop_accepted = refl;
      loop_leaves = refl;
      loop_refused = refl;
      asked_213 = refl;
      asked_321 = refl;
      asked_123 = refl;
      leads_open = refl;
      leads_hold = refl;
    }
