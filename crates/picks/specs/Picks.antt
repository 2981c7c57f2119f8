-- Sets of none, one or all of the numbers below m.
use Rattle.std.specs.Prelude.{ℕ, ◌%◌, min, Bool, true, false, cond, List, Some, codes, Option, ◌==◌}
use Rattle.std.specs.Option.{option_map}
use Rattle.std.specs.Str.{bytes_eq}
use Rattle.picks.specs.declared.Pick.{Pick}
use Rattle.picks.specs.declared.Pick.TheVariants.{Nothing, One, Any}

-- `One a` stands for the residue of a
abbrev pub pick_has : ℕ → Pick → ℕ → Bool
pick_has m Nothing v = false
pick_has m (One a) v = a % m == v
pick_has m Any v = true

abbrev pub pick_meet : ℕ → Pick → Pick → Pick
pick_meet m Nothing t = Nothing
pick_meet m (One a) Nothing = Nothing
pick_meet m (One a) (One b) = cond (a % m == b % m) (One a) Nothing
pick_meet m (One a) Any = One a
pick_meet m Any t = t

-- where f, which takes the values to each other, takes those of a set
abbrev pub pick_shift : ℕ → (ℕ → ℕ) → Pick → Pick
pick_shift m f Nothing = Nothing
pick_shift m f (One a) = One (f (a % m))
pick_shift m f Any = Any

-- there are two values at least
abbrev pub pick_inside : ℕ → Pick → Pick → Bool
pick_inside m Nothing t = true
pick_inside m (One a) Nothing = false
pick_inside m (One a) (One b) = a % m == b % m
pick_inside m (One a) Any = true
pick_inside m Any Nothing = false
pick_inside m Any (One b) = false
pick_inside m Any Any = true

-- exact up to 255 values
abbrev pub pick_count : ℕ → Pick → ℕ
pick_count m Nothing = 0
pick_count m (One a) = 1
pick_count m Any = min m 256

-- the word of a set, where spell writes a value
abbrev pub pick_label : ℕ → (ℕ → List ℕ) → Pick → List ℕ
pick_label m spell Nothing = codes "none"
pick_label m spell (One a) = spell (a % m)
pick_label m spell Any = codes "any"

-- the set that a field labels, given the value that the field names
abbrev pub pick_read : List ℕ → Option ℕ → Option Pick
pick_read field value = cond (bytes_eq field (codes "none")) (Some Nothing) (cond (bytes_eq field (codes "any")) (Some Any) (option_map One value))

abbrev pub pick_labelled : (List ℕ → Option ℕ) → List ℕ → Option Pick
pick_labelled named field = pick_read field (named field)
