-- Leads: `plus` is 0 and `minus` is 1, and two pairs of leads are joined alike or crossed.
use Rattle.std.specs.Prelude.{ℕ, ◌-◌, Bool, true, false, cond, not, ◌&&◌, ◌||◌, List, [], ◌∷◌, codes, Option, ◌==◌}
use Rattle.words.specs.Reading.{first_with}
use Rattle.leads.specs.declared.Turn.{Turn}
use Rattle.leads.specs.declared.Turn.TheVariants.{Same, Crossed}
use Rattle.leads.specs.declared.Ends.{Ends}

abbrev pub turn_act : Turn → ℕ → ℕ
turn_act Same v = v
turn_act Crossed v = 1 - v

abbrev pub turn_comp : Turn → Turn → Turn
turn_comp Same h = h
turn_comp Crossed Same = Crossed
turn_comp Crossed Crossed = Same

abbrev pub turn_word : Turn → List ℕ
turn_word Same = codes "same"
turn_word Crossed = codes "crossed"

abbrev pub turns : List Turn
turns = Same ∷ Crossed ∷ []

abbrev pub turn_named : List ℕ → Option Turn
turn_named field = first_with turn_word turns field

abbrev pub ends : Bool → Bool → Ends
ends p m = record { plus = p; minus = m }

abbrev pub ends_has : Ends → ℕ → Bool
ends_has s v = cond (v == 0) s.plus s.minus

abbrev pub ends_meet : Ends → Ends → Ends
ends_meet s t = ends (s.plus && t.plus) (s.minus && t.minus)

abbrev pub ends_shift : Turn → Ends → Ends
ends_shift Same s = s
ends_shift Crossed s = ends s.minus s.plus

abbrev pub ends_fixed : Turn → Ends
ends_fixed Same = ends true true
ends_fixed Crossed = ends false false

abbrev pub ends_inside : Ends → Ends → Bool
ends_inside s t = (not s.plus || t.plus) && (not s.minus || t.minus)

abbrev pub ends_count : Ends → ℕ
ends_count s = cond s.plus (cond s.minus 2 1) (cond s.minus 1 0)

abbrev pub ends_label : Ends → List ℕ
ends_label s = cond s.plus (cond s.minus (codes "any") (codes "plus")) (cond s.minus (codes "minus") (codes "none"))

abbrev pub all_ends : List Ends
all_ends = ends false false ∷ ends true false ∷ ends false true ∷ ends true true ∷ []

abbrev pub ends_labelled : List ℕ → Option Ends
ends_labelled field = first_with ends_label all_ends field
