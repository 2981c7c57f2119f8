-- The words of orders and of sets of conductors, in which value v is written as the digit of v + 1.
use Rattle.std.specs.Prelude.{ℕ, zero, suc, ◌+◌, ◌-◌, ◌%◌, ◌^◌, Bool, cond, ◌||◌, List, [], ◌∷◌, ◌++◌, map, codes, Option, ◌==◌, slice_index}
use Rattle.std.specs.List.{list_any, range_with_len}
use Rattle.words.specs.Reading.{first_with}
use Rattle.conductors.specs.Orders.{takes, numbered}
use Rattle.conductors.specs.Masks.{bit, mask, mask_full}

-- the digits of where 1, 2, .. go
abbrev pub order_word_lem : ℕ → ℕ → List ℕ
order_word_lem n g = map (λ v. 49 + takes n g v) (range_with_len 0 n)

-- the order that a field would name
abbrev pub order_read : ℕ → List ℕ → ℕ
order_read n field = numbered n (λ v. slice_index field v - 49)

abbrev pub order_named : ℕ → List ℕ → Option ℕ
order_named n field = first_with (order_word_lem n) (order_read n field ∷ []) field

-- the digits of those below n that pass the test, rising
unfoldable pub digits : (ℕ → Bool) → ℕ → List ℕ
digits p zero = []
digits p (suc n) = digits p n ++ cond (p n) ((49 + n) ∷ []) []

abbrev pub mask_label : ℕ → ℕ → List ℕ
mask_label n s = cond (s % 2 ^ n == mask_full n) (codes "any") (cond (s % 2 ^ n == 0) (codes "none") (digits (bit s) n))

-- whether a byte stands in a text
abbrev pub stands : ℕ → List ℕ → Bool
stands b text = list_any (λ c. c == b) text

-- the set that a field would label: those whose digit stands in it, or all where the `a` of `any` does
abbrev pub mask_read : ℕ → List ℕ → ℕ
mask_read n field = mask (λ v. stands (49 + v) field || stands 97 field) n

abbrev pub mask_labelled : ℕ → List ℕ → Option ℕ
mask_labelled n field = first_with (mask_label n) (mask_read n field ∷ []) field
