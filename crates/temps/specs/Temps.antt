-- Temperatures are numbers modulo 2 ^ 32, and the relation d adds d.
use Rattle.std.specs.Prelude.{ℕ, ◌+◌, ◌-◌, ◌%◌, cond, ◌&&◌, List, ◌∷◌, drop, Some, None, decimal, Option, ◌==◌, nat_le, nat_lt, slice_index}
use Rattle.words.specs.Numbers.{number_named}
use Rattle.picks.specs.declared.Pick.{Pick}
use Rattle.picks.specs.declared.Pick.TheVariants.{Nothing, Any}

abbrev pub temp_act : ℕ → ℕ → ℕ
temp_act d v = (d + v) % 4294967296

abbrev pub temp_inv : ℕ → ℕ
temp_inv d = (4294967296 - d % 4294967296) % 4294967296

abbrev pub temp_fixed : ℕ → Pick
temp_fixed d = cond (d % 4294967296 == 0) Any Nothing

-- how a number below 2 ^ 32 is written: from 2 ^ 31 on it stands for what is left when 2 ^ 32 is taken away
abbrev pub temp_spelt : ℕ → List ℕ
temp_spelt v = cond (nat_lt v 2147483648) (decimal v) (45 ∷ decimal (4294967296 - v))

abbrev pub temp_word : ℕ → List ℕ
temp_word d = temp_spelt (d % 4294967296)

-- a number below 2 ^ 31
abbrev pub if_above : Option ℕ → Option ℕ
if_above None = None
if_above (Some n) = cond (nat_lt n 2147483648) (Some n) None

-- what a minus sign makes of a number from 1 to 2 ^ 31
abbrev pub if_below : Option ℕ → Option ℕ
if_below None = None
if_below (Some n) = cond (nat_lt 0 n && nat_le n 2147483648) (Some (4294967296 - n)) None

-- the number that a field writes
abbrev pub temp_named : List ℕ → Option ℕ
temp_named field = cond (slice_index field 0 == 45) (if_below (number_named (drop 1 field))) (if_above (number_named field))
