-- The kind of the orders of n conductors as a whole.
use Rattle.std.specs.Prelude.{ℕ}
use Rattle.std.specs.Int.Bits.{bit_and}
use Rattle.kind.specs.declared.Kind.{Ghosts}
use Rattle.conductors.specs.Masks.{bit, mask_full, mask_shift, mask_fixed, mask_inside, mask_count}
use Rattle.conductors.specs.Orders.{takes, order_comp, order_inv}
use Rattle.conductors.specs.OrderWords.{order_word_lem, order_named, mask_label, mask_labelled}

-- O stands for it
abbrev pub orders_kind : {O : Type 0} → ℕ → Ghosts O ℕ ℕ
orders_kind n = record {
  span = n;
  act = takes n;
  has = bit;
  unit = 0;
  comp = order_comp n;
  inv = order_inv n;
  full = mask_full n;
  meet = bit_and;
  shift = mask_shift n;
  fixed = mask_fixed n;
  inside = mask_inside n;
  count = mask_count n;
  word = order_word_lem n;
  label = mask_label n;
  W = 4;
  named = order_named n;
  labelled = mask_labelled n;
}
