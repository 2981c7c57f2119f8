-- What a closure does at the numbers below n.
use Rattle.std.specs.Prelude.{◌≡◌, ℕ, ◌<◌}

-- it may be called at each of them
abbrev pub TakesBelow : (ℕ → Type 0) → ℕ → Type 0
TakesBelow pre n = (v : ℕ) → v < n → pre v

-- it returns there what f gives
abbrev pub GivesBelow : {R : Type 0} → (ℕ → R → Type 0) → (ℕ → R) → ℕ → Type 0
GivesBelow {R} post f n = (v : ℕ) → v < n → (r : R) → post v r → r ≡ f v
