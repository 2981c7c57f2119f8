-- A point is a number from 0 to 255, and is written in decimal.
use Rattle.std.specs.Prelude.{ℕ, cond, List, Some, None, Option, nat_lt}
use Rattle.words.specs.Numbers.{number_named}

-- a number that is a point
abbrev pub if_point : Option ℕ → Option ℕ
if_point None = None
if_point (Some n) = cond (nat_lt n 256) (Some n) None

-- the point that a field writes
abbrev pub point_of : List ℕ → Option ℕ
point_of field = if_point (number_named field)
