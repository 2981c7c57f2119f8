-- How many values a set has, and what its tally says of that.
use Rattle.std.specs.Prelude.{◌≡◌, ℕ, zero, suc, ◌+◌, ◌<◌, ◌≤◌, Bool, cond}

-- how many of the numbers below n pass the test
unfoldable pub members : (ℕ → Bool) → ℕ → ℕ
members p zero = 0
members p (suc n) = cond (p n) 1 0 + members p n

-- the tally t of a set of that size: 0 and 1 are exact, a tally below 256 is no smaller than the size, and 256 says nothing
pub record Tallied (size t : ℕ) : Type 0 where
  pub none : t ≡ 0 → size ≡ 0
  pub no_one : size ≡ 0 → t ≡ 0
  pub single : t ≡ 1 → size ≡ 1
  pub one_only : size ≡ 1 → t ≡ 1
  pub few : t < 256 → size ≤ t
  pub capped : t ≤ 256
