-- The words of drums: a relation is two numbers with a bar between, and a value is a number.
use Rattle.std.specs.Prelude.{ℕ, cond, ◌&&◌, List, [], ◌∷◌, ◌++◌, Some, None, decimal, Option, nat_le}
use Rattle.words.specs.Numbers.{number_named}
use Rattle.words.specs.Parts.{parts}
use Rattle.drums.specs.Drums.{drum_mult, drum_add, drum_number}

-- the word of a|b
abbrev pub with_bar : ℕ → ℕ → List ℕ
with_bar a b = decimal a ++ (124 ∷ decimal b)

abbrev pub drum_word : ℕ → List ℕ
drum_word g = with_bar (drum_mult g) (drum_add g)

-- a|b, where both are numbers in range
abbrev pub both_named : Option ℕ → Option ℕ → Option ℕ
both_named None b = None
both_named (Some a) None = None
both_named (Some a) (Some b) = cond (nat_le 1 a && (nat_le a 250 && nat_le b 250)) (Some (drum_number a b)) None

-- a relation has two parts
abbrev pub two_named : List (List ℕ) → Option ℕ
two_named [] = None
two_named (p ∷ []) = None
two_named (p ∷ q ∷ []) = both_named (number_named p) (number_named q)
two_named (p ∷ q ∷ r ∷ rs) = None

abbrev pub drum_named : List ℕ → Option ℕ
drum_named field = two_named (parts 124 field)

-- a number in range
abbrev pub low_number : Option ℕ → Option ℕ
low_number None = None
low_number (Some v) = cond (nat_le v 250) (Some v) None

abbrev pub value_named : List ℕ → Option ℕ
value_named field = low_number (number_named field)
