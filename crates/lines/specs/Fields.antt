-- The fields of a text, which tabs part.
use Rattle.std.specs.Prelude.{ℕ, List, [], ◌∷◌, Ok, Err, Option, Result}
use Rattle.std.specs.Borrow.{Bor}
use Rattle.words.specs.Parts.{parts, parts_left}
use Rattle.lines.specs.declared.fault.LineFault.{LineFault}
use Rattle.lines.specs.declared.fault.LineFault.TheVariants.{Shape}

abbrev pub fields : List ℕ → List (List ℕ)
fields text = parts 9 text

-- the fields of what is left of a text, if anything is left
abbrev pub remaining : Option (Bor (List ℕ)) → List (List ℕ)
remaining rest = parts_left 9 rest

-- exactly two fields
abbrev pub two : List (List ℕ) → Result (List ℕ × List ℕ) LineFault
two [] = Err Shape
two (a ∷ []) = Err Shape
two (a ∷ b ∷ []) = Ok (a, b)
two (a ∷ b ∷ c ∷ fs) = Err Shape

-- exactly three fields
abbrev pub three : List (List ℕ) → Result (List ℕ × List ℕ × List ℕ) LineFault
three [] = Err Shape
three (a ∷ []) = Err Shape
three (a ∷ b ∷ []) = Err Shape
three (a ∷ b ∷ c ∷ []) = Ok (a, b, c)
three (a ∷ b ∷ c ∷ d ∷ fs) = Err Shape
