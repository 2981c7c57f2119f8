-- The words of orders tell them apart, and are read back.
use Rattle.std.specs.Prelude.{◌≡◌, ℕ, zero, suc, ◌+◌, ◌-◌, ◌<◌, ◌≤◌, true, map, length, slice_index, refl}
use Rattle.std.proofs.Common.{ap, ◌∙◌, zero-add, arith}
use Rattle.std.specs.List.{range_with_len}
use Rattle.std.proofs.lemmas.List.FromFn.{length-map-range_with_len, get_or-map-range_with_len, fill_by_all}
use Rattle.std.proofs.lemmas.Bool.{and_from}
use Rattle.words.specs.Plain.{all_plain}
use Rattle.conductors.specs.Orders.{takes}
use Rattle.conductors.specs.OrderWords.{order_word_lem, order_read}
use Rattle.conductors.specs.OrderLaws.{takes_below}
use Rattle.conductors.specs.OrderNumbers.{itself_takes, numbered_alike}
use Rattle.conductors.specs.Digits.{digit_plain}

pub order_word_long : (n g : ℕ) → length (order_word_lem n g) ≡ n
order_word_long n g = length-map-range_with_len (λ v. 49 + takes n g v) 0 n

order_word_at : (n g v : ℕ) → v < n → slice_index (order_word_lem n g) v ≡ 49 + takes n g v
order_word_at n g v h = get_or-map-range_with_len (λ u. 49 + takes n g u) 0 n v v 0 h (zero-add v)

pub order_word_tells : (n g h : ℕ) → order_word_lem n g ≡ order_word_lem n h → (v : ℕ) → v < n → takes n g v ≡ takes n h v
order_word_tells n g h e v l = omega (arith, order_word_at n g v l, order_word_at n h v l, ap (λ w. slice_index w v) e)

pub order_word_told : (n g h : ℕ) → ((v : ℕ) → v < n → takes n g v ≡ takes n h v) → order_word_lem n g ≡ order_word_lem n h
order_word_told n g h e =
    fill_by_all (λ v. 49 + takes n h v) (order_word_lem n g) n 0 (order_word_long n g) (λ v l. order_word_at n g v l ∙ ap (λ w. 49 + w) (e v l))

pub order_word_read : (n g : ℕ) → order_word_lem n (order_read n (order_word_lem n g)) ≡ order_word_lem n g
order_word_read n g =
    let digit : (v : ℕ) → v < n → slice_index (order_word_lem n g) v - 49 ≡ takes n g v = λ (v : ℕ) (l : v < n). omega (arith, order_word_at n g v l) in
    ap (order_word_lem n) (numbered_alike n (λ v. slice_index (order_word_lem n g) v - 49) (takes n g) digit)
    ∙ order_word_told n _ g (itself_takes n g)

each_plain : (f : ℕ → ℕ) (a n : ℕ) → ((v : ℕ) → v < a + n → f v < 4) → all_plain (map (λ v. 49 + f v) (range_with_len a n)) ≡ true
each_plain f a zero h = refl
each_plain f a (suc n) h =
    and_from _ _ (digit_plain (f a) (h a (omega arith))) (each_plain f (a + 1) n (λ v (l : v < a + 1 + n). h v (omega arith)))

pub order_word_plain : (n g : ℕ) → n ≤ 4 → all_plain (order_word_lem n g) ≡ true
order_word_plain n g few = each_plain (takes n g) 0 n (λ v (l : v < 0 + n). omega (arith, takes_below n g v (omega arith)))
