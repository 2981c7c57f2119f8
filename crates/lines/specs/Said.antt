-- What a line says.
use Rattle.std.specs.Prelude.{ℕ, cond, List, [], ◌∷◌, length, Some, None, Ok, Err, codes, Option, Result, nat_lt}
use Rattle.std.specs.Borrow.{Bor}
use Rattle.std.specs.Str.{bytes_eq}
use Rattle.words.specs.Reading.{first_with}
use Rattle.lines.specs.Fields.{fields, two, three}
use Rattle.lines.specs.declared.fault.LineFault.{LineFault}
use Rattle.lines.specs.declared.fault.LineFault.TheVariants.{Long, Shape}
use Rattle.lines.specs.declared.line.SheetName.{SheetName}
use Rattle.lines.specs.declared.line.SheetName.TheVariants.{Leads, Phases, Drums, Temps}
use Rattle.lines.specs.declared.saying.Comparison.{Comparison}
use Rattle.lines.specs.declared.saying.Saying.{Saying}
use Rattle.lines.specs.declared.saying.Saying.TheVariants.{Note, See, Ask}
use Rattle.lines.specs.declared.line.Request.{Request}

-- a line by its words
pub data Said : Type 0 where
  note : List ℕ → List ℕ → List ℕ → Said
  see : List ℕ → List ℕ → Said
  ask : List ℕ → List ℕ → List ℕ → Said

-- a line with the sheet that it is for
pub record Heard : Type 0 where
  pub sheet : SheetName
  pub said : Said

-- the code's line
abbrev pub Line : Type 0
Line = Saying (Bor (List ℕ)) (Bor (List ℕ)) (Bor (List ℕ))

-- the words of a comparison
abbrev pub compared : Comparison (Bor (List ℕ)) (Bor (List ℕ)) → List ℕ × List ℕ × List ℕ
compared c = (c.x.now, c.y.now, c.relation.now)

abbrev pub said_of : Line → Said
said_of (Note c) = note c.x.now c.y.now c.relation.now
said_of (See x s) = see x.now s.now
said_of (Ask c) = ask c.x.now c.y.now c.relation.now

abbrev pub heard_of : Request → Heard
heard_of r = record { sheet = r.sheet; said = said_of r.line }

-- what is made of a value; a fault stays
abbrev pub with : {X Y : Type 0} → (X → Y) → Result X LineFault → Result Y LineFault
with f (Ok x) = Ok (f x)
with f (Err e) = Err e

abbrev pub heard : Result Request LineFault → Result Heard LineFault
heard r = with heard_of r

abbrev pub sheet_word : SheetName → List ℕ
sheet_word Leads = codes "leads"
sheet_word Phases = codes "phases"
sheet_word Drums = codes "drums"
sheet_word Temps = codes "temps"

abbrev pub sheet_named : List ℕ → Option SheetName
sheet_named field = first_with sheet_word (Leads ∷ Phases ∷ Drums ∷ Temps ∷ []) field

-- what a verb says with the fields that follow it
abbrev pub said_by : List ℕ → List (List ℕ) → Result Said LineFault
said_by verb fs =
    cond (bytes_eq verb (codes "note")) (with (λ t. note t.0 t.1 t.2) (three fs))
    (cond (bytes_eq verb (codes "see")) (with (λ t. see t.0 t.1) (two fs))
    (cond (bytes_eq verb (codes "ask")) (with (λ t. ask t.0 t.1 t.2) (three fs))
    (Err Shape)))

abbrev pub on_sheet : Option SheetName → Result Said LineFault → Result Heard LineFault
on_sheet None r = Err Shape
on_sheet (Some s) r = with (λ t. record { sheet = s; said = t }) r

-- the name of a sheet, a verb, and the verb's fields
abbrev pub parse_fields : List (List ℕ) → Result Heard LineFault
parse_fields [] = Err Shape
parse_fields (name ∷ []) = Err Shape
parse_fields (name ∷ verb ∷ fs) = on_sheet (sheet_named name) (said_by verb fs)

-- the line that a text is
abbrev pub parse : List ℕ → Result Heard LineFault
parse text = cond (nat_lt 64 (length text)) (Err Long) (parse_fields (fields text))
