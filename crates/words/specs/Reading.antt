-- Reading is writing turned round: a field is read as whatever has it for its word.
use Rattle.std.specs.Prelude.{ℕ, cond, List, [], ◌∷◌, Some, None, Option}
use Rattle.std.specs.Str.{bytes_eq}

-- the first of some things that has the field for its word
abbrev pub first_with : {X : Type 0} → (X → List ℕ) → List X → List ℕ → Option X
first_with word [] field = None
first_with word (x ∷ xs) field = cond (bytes_eq field (word x)) (Some x) (first_with word xs field)
