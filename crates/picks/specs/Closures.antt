-- What a closure makes of the value of a set.
use Rattle.std.specs.Prelude.{◌≡◌, ℕ, ◌^◌, ◌<◌, List, codes}
use Rattle.picks.specs.declared.Pick.{Pick}
use Rattle.picks.specs.declared.Pick.TheVariants.{Nothing, One, Any}

-- a fact of the one value, if there is one
abbrev pub ForOne : Pick → (ℕ → Type 0) → Type 0
ForOne s P = (v : ℕ) → s ≡ One v → P v

-- one value becomes what the closure returned for it
abbrev pub Maps : (ℕ → ℕ → Type 0) → Pick → Pick → Type 0
Maps post Nothing t = t ≡ Nothing
Maps post (One v) t = (x : ℕ) × post v x × (t ≡ One x)
Maps post Any t = t ≡ Any

-- one value has for its word what the closure returned for it
abbrev pub Spells : (ℕ → List ℕ → Type 0) → Pick → List ℕ → Type 0
Spells post Nothing word = word ≡ codes "none"
Spells post (One v) word = post v word
Spells post Any word = word ≡ codes "any"

-- what a closure makes of a number below 2 ^ 32 is what a function makes of it
abbrev pub Computes : {X : Type 0} → (ℕ → X → Type 0) → (ℕ → X) → Type 0
Computes post f = (v : ℕ) (x : _) → v < 2 ^ 32 → post v x → x ≡ f v
