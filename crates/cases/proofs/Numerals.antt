-- Numerals of given numbers.
use Rattle.std.proofs.Common.{◌≡◌, ℕ, zero, suc, ◌+◌, ◌/◌, ◌%◌, ◌^◌, ◌<◌, cond, ltb, List, [], ◌∷◌, ◌++◌, decimal, sym, rules}
use Rattle.std.proofs.lemmas.Fmt.{AppendsLastDigit, decimal_from_appends, length-decimal-le}

-- the numeral of n, of at most k digits, as the checker can compute it
abbrev pub numeral : ℕ → ℕ → List ℕ
numeral zero n = []
numeral (suc k) n = cond (ltb n 10) ((48 + n) ∷ []) (numeral k (n / 10) ++ ((48 + n % 10) ∷ []))

spells : AppendsLastDigit numeral
spells = search rules

pub decimal_is : (k n : ℕ) → 0 < k → n < 10 ^ k → n < 2 ^ 64 → decimal n ≡ numeral k n
decimal_is k n some room low = sym (decimal_from_appends numeral spells k n low (length-decimal-le k n some room low))
