-- What is printed for a line.
use Rattle.std.specs.Prelude.{ℕ, List, [], ◌∷◌, ◌++◌, codes, decimal}
use Rattle.table.specs.Ask.{answer_word}
use Rattle.sheet.specs.Calls.{Outcome, accepted, answered, refused}

abbrev pub told : Outcome → List ℕ
told accepted = codes "ok"
told (answered a) = answer_word a
told (refused n) = codes "refused" ++ (9 ∷ decimal n)

-- the line's number, a tab, what is told, and a line feed
abbrev pub printed : ℕ → Outcome → List ℕ
printed number o = decimal number ++ (9 ∷ (told o ++ (10 ∷ [])))
