-- Sets of numbers below n, as the bits of a number.
use Rattle.std.specs.Prelude.{ℕ, zero, suc, ◌+◌, ◌-◌, ◌*◌, ◌/◌, ◌%◌, ◌^◌, Bool, cond, ◌==◌, bit_and, count_ones, nat_eq}
use Rattle.conductors.specs.Orders.{takes, brings}

-- whether v belongs to s
abbrev pub bit : ℕ → ℕ → Bool
bit s v = s / 2 ^ v % 2 == 1

-- the set of those below n that pass the test
unfoldable pub mask : (ℕ → Bool) → ℕ → ℕ
mask p zero = 0
mask p (suc n) = cond (p n) 1 0 * 2 ^ n + mask p n

abbrev pub mask_full : ℕ → ℕ
mask_full n = 2 ^ n - 1

abbrev pub mask_shift : ℕ → ℕ → ℕ → ℕ
mask_shift n g s = mask (λ v. bit s (brings n g v)) n

abbrev pub mask_fixed : ℕ → ℕ → ℕ
mask_fixed n g = mask (λ v. nat_eq (takes n g v) v) n

abbrev pub mask_inside : ℕ → ℕ → ℕ → Bool
mask_inside n s t = bit_and s t % 2 ^ n == s % 2 ^ n

abbrev pub mask_count : ℕ → ℕ → ℕ
mask_count n s = count_ones (s % 2 ^ n)
