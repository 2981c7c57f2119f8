-- The number that a field writes in decimal.
use Rattle.std.specs.Prelude.{ℕ, List, decimal, Option}
use Rattle.std.specs.List.{range_with_len}
use Rattle.words.specs.Reading.{first_with}

-- the numbers below n, rising
unfoldable pub below : ℕ → List ℕ
below n = range_with_len 0 n

-- the number below 2 ^ 32 whose decimal is the field
unfoldable pub number_named : List ℕ → Option ℕ
number_named field = first_with decimal (below 4294967296) field
