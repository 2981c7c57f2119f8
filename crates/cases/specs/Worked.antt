-- Worked cases of orders, drums, offsets and new sheets, in one table.
use Rattle.std.specs.Prelude.{◌≡◌, ℕ, Bool, true, false, ◌&&◌, List, [], ◌∷◌, is_some, codes, decimal}
use Rattle.leads.specs.declared.Turn.{Turn}
use Rattle.leads.specs.declared.Turn.TheVariants.{Same}
use Rattle.leads.specs.declared.Ends.{Ends}
use Rattle.leads.specs.Leads.{ends}
use Rattle.leads.specs.contracts.LeadsKind.TheImpl.{ghosts as leads}
use Rattle.conductors.specs.OrderKind.{orders_kind}
use Rattle.conductors.specs.OrderWords.{order_read, mask_read}
use Rattle.picks.specs.Picks.{pick_label}
use Rattle.drums.specs.Drums.{drum_number, drum_inv, drum_fixed}
use Rattle.drums.specs.DrumWords.{drum_word}
use Rattle.temps.specs.Temps.{temp_act, temp_inv, temp_word}
use Rattle.kind.specs.declared.Kind.{Ghosts}
use Rattle.table.specs.Look.{looked}
use Rattle.table.specs.declared.questions.Answer.TheVariants.{Holds, Barred, Open}
use Rattle.sheet.specs.State.{State, new_sheet}
use Rattle.sheet.specs.Calls.{Taken, accepted, answered, refused, enter, note, see, ask, called}

abbrev pub phases : Ghosts (Unit {0}) ℕ ℕ
phases = orders_kind 3

-- new sheets, of the book's size
abbrev pub new_phases : State ℕ ℕ
new_phases = new_sheet phases 1 64 64

abbrev pub new_leads : State Turn Ends
new_leads = new_sheet leads 0 64 64

-- what comes on new phases of noting that point 0 is the order of itself
abbrev pub looped : ℕ → Taken ℕ ℕ
looped g = called phases new_phases (enter (note 0 0 g))

-- what is answered on phases where point 0 was seen as 12
abbrev pub asked_of_12 : ℕ → Taken ℕ ℕ
asked_of_12 g = called phases (called phases new_phases (enter (see 0 (mask_read 3 (codes "12"))))).left (ask 0 0 g)

-- leads with points 0 and 1 seen as plus
abbrev pub both_plus : State Turn Ends
both_plus = (called leads (called leads new_leads (enter (see 0 (ends true false)))).left (enter (see 1 (ends true false)))).left

-- every text of the list passes
abbrev pub each : (List ℕ → Bool) → List (List ℕ) → Bool
each p [] = true
each p (w ∷ ws) = p w && each p ws

abbrev pub six_orders : List (List ℕ)
six_orders = codes "123" ∷ codes "132" ∷ codes "213" ∷ codes "231" ∷ codes "312" ∷ codes "321" ∷ []

abbrev pub eight_sets : List (List ℕ)
eight_sets = codes "none" ∷ codes "1" ∷ codes "2" ∷ codes "12" ∷ codes "3" ∷ codes "13" ∷ codes "23" ∷ codes "any" ∷ []

pub record Worked : Type 0 where
  pub orders_read : each (λ w. is_some (phases.named w)) six_orders ≡ true
  pub sets_read : each (λ w. is_some (phases.labelled w)) eight_sets ≡ true
  pub order_after : phases.word (phases.comp (order_read 3 (codes "231")) (order_read 3 (codes "213"))) ≡ codes "321"
  pub order_before : phases.word (phases.comp (order_read 3 (codes "213")) (order_read 3 (codes "231"))) ≡ codes "132"
  pub order_inverse : phases.word (phases.inv (order_read 3 (codes "231"))) ≡ codes "312"
  pub drum : drum_word (drum_number 2 3) ≡ codes "2|3"
  pub drum_inverse : drum_word (drum_inv (drum_number 2 3)) ≡ codes "126|124"
  pub drum_still : pick_label 251 decimal (drum_fixed (drum_number 2 3)) ≡ codes "248"
  pub drum_none_still : pick_label 251 decimal (drum_fixed (drum_number 1 5)) ≡ codes "none"
  pub lowest : temp_word 2147483648 ≡ codes "-2147483648"
  pub lowest_inverse : temp_word (temp_inv 2147483648) ≡ codes "-2147483648"
  pub past_highest : temp_word (temp_act 2147483647 1) ≡ codes "-2147483648"
  pub loop_accepted : (looped (order_read 3 (codes "213"))).outcome ≡ accepted
  pub loop_leaves : phases.label (looked phases (looped (order_read 3 (codes "213"))).left.table 0) ≡ codes "3"
  pub loop_refused : (looped (order_read 3 (codes "231"))).outcome ≡ refused 6
  pub asked_213 : (asked_of_12 (order_read 3 (codes "213"))).outcome ≡ answered Barred
  pub asked_321 : (asked_of_12 (order_read 3 (codes "321"))).outcome ≡ answered Open
  pub asked_123 : (asked_of_12 (order_read 3 (codes "123"))).outcome ≡ answered Holds
  pub leads_open : (called leads new_leads (ask 0 1 Same)).outcome ≡ answered Open
  pub leads_hold : (called leads both_plus (ask 0 1 Same)).outcome ≡ answered Holds
