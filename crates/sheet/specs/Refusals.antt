-- The number and the text of each refusal.
use Rattle.std.specs.Prelude.{ℕ, List, codes}
use Rattle.sheet.specs.declared.refusal.Refusal.{Refusal}
use Rattle.sheet.specs.declared.refusal.Refusal.TheVariants.{OffSheet, Contrary}

abbrev pub refusal_number : Refusal → ℕ
refusal_number OffSheet = 5
refusal_number Contrary = 6

abbrev pub refusal_text : Refusal → List ℕ
refusal_text OffSheet = codes "a point is not on the sheet"
refusal_text Contrary = codes "the line is contrary to the table"
