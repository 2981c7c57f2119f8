-- Drum relations a|b: v goes to a × v + b modulo 251, where a is not 0. Each goes by a number.
use Rattle.std.specs.Prelude.{ℕ, ◌+◌, ◌-◌, ◌*◌, ◌/◌, ◌%◌, ◌^◌, ◌≤◌, cond, ◌==◌}
use Rattle.picks.specs.Picks.{pick_shift}
use Rattle.picks.specs.declared.Pick.{Pick}
use Rattle.picks.specs.declared.Pick.TheVariants.{Nothing, One, Any}

-- a|b with both in range
pub record InRange (a b : ℕ) : Type 0 where
  pub some : 1 ≤ a
  pub low : a ≤ 250
  pub small : b ≤ 250

-- the relation that a number stands for
abbrev pub drum_mult : ℕ → ℕ
drum_mult n = n / 251 % 250 + 1

abbrev pub drum_add : ℕ → ℕ
drum_add n = n % 251

-- the least number that stands for a|b
abbrev pub drum_number : ℕ → ℕ → ℕ
drum_number a b = (a - 1) * 251 + b

-- where a|b takes v
abbrev pub moved_to : ℕ → ℕ → ℕ → ℕ
moved_to a b v = (a * v + b) % 251

abbrev pub drum_act : ℕ → ℕ → ℕ
drum_act g v = moved_to (drum_mult g) (drum_add g) v

-- since 251 is prime, a to the power 250 is 1
unfoldable pub inverse251 : ℕ → ℕ
inverse251 a = a ^ 249 % 251

-- g after h: a × (a' × v + b') + b
abbrev pub drum_comp : ℕ → ℕ → ℕ
drum_comp g h = drum_number (drum_mult g * drum_mult h % 251) ((drum_mult g * drum_add h + drum_add g) % 251)

-- v less b, divided by a
abbrev pub drum_inv : ℕ → ℕ
drum_inv g = drum_number (inverse251 (drum_mult g)) (inverse251 (drum_mult g) * (251 - drum_add g) % 251)

-- the v with a × v + b = v, that is (1 - a) × v = b; modulo 251, 1 - a is 252 - a
abbrev pub still_set : ℕ → ℕ → Pick
still_set a b = cond (a == 1) (cond (b == 0) Any Nothing) (One (inverse251 (252 - a) * b % 251))

abbrev pub drum_fixed : ℕ → Pick
drum_fixed g = still_set (drum_mult g) (drum_add g)

abbrev pub drum_shift : ℕ → Pick → Pick
drum_shift g = pick_shift 251 (drum_act g)
