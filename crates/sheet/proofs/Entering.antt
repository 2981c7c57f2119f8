-- The step of a note or a sighting on a sheet with no open trial.
use Rattle.std.proofs.Common.{◌≡◌, ℕ, Bool, true, false, cond, ◌&&◌, List, [], map, Ok, Err, Some, None, sym, refl, ap, ◌∙◌}
use Rattle.std.proofs.lemmas.Bool.{cond-true, cond-false, and_from, and_left}
use Rattle.kind.specs.declared.Kind.{Ghosts}
use Rattle.kind.proofs.Lawful.{Lawful}
use Rattle.table.specs.declared.node.Node.{Node}
use Rattle.table.specs.declared.notes.Meeting.{Meeting}
use Rattle.table.specs.declared.sightings.Narrowing.{Narrowing}
use Rattle.table.specs.Table.{settled}
use Rattle.table.specs.Words.{table_read}
use Rattle.table.specs.Note.{empty, meeting, joined, Meets}
use Rattle.table.specs.See.{Narrows}
use Rattle.table.proofs.Found.{empty_met, joined_met, empty_narrowed, settled_narrowed}
use Rattle.sheet.specs.declared.refusal.Refusal.TheVariants.{OffSheet}
use Rattle.sheet.specs.State.{State, Kept, on, any_open, full}
use Rattle.sheet.specs.Calls.{Line, note, see, enter, accepted, refused, Taken, first_of, second_of, stays, keep, entered, kept, takes_in, called}
use Rattle.sheet.specs.Step.{Step}
use Rattle.sheet.specs.Words.{kept_read, sheet_read}

module _ {K R S : Type 0} (k : Ghosts K R S) (s : State R S) (idle : s.trials ≡ []) where
  -- the sheet with another table
  abbrev with_table : List (Node R S) → State R S
  with_table t = record { number = s.number; table = t; room = s.room; trials = s.trials }

  abbrev both_on : Line R S → Bool
  both_on l = on s (first_of l) && on s (second_of l)

  not_full : full s ≡ false
  not_full = and_left _ _ (ap any_open idle)

  none_kept : (e : Kept R S) → keep e s.trials ≡ s.trials
  none_kept e = ap (keep e) idle ∙ sym idle

  -- what came of a line is known
  step_to : (l : Line R S) (s' : State R S) (c : Taken R S) → called k s (enter l) ≡ c → sheet_read k s' ≡ sheet_read k c.left → Step k s (enter l) c.outcome s'
  step_to l s' c made same = record { outcome = sym (ap (λ d. d.outcome) made); left = same ∙ sym (ap (λ d. sheet_read k d.left) made) }

  -- a point that is not refused is on the sheet
  found : (b : Bool) (u : Unit {0}) → Ok u ≡ cond b (Ok tt) (Err OffSheet) → b ≡ true
  found true u e = refl
  found false u e = cc

  step_contrary : (l : Line R S) → both_on l ≡ true → entered k s.table l ≡ None → Step k s (enter l) (refused 6) s
  step_contrary l there e = step_to l s (stays s (refused 6)) (cond-true _ _ _ there ∙ ap (takes_in k s l) e) refl

  step_accepted : (u v : List (Node R S)) (l : Line R S) → both_on l ≡ true → entered k s.table l ≡ Some v → table_read k u ≡ table_read k v → Step k s (enter l) accepted (with_table u)
  step_accepted u v l there e same =
      step_to l (with_table u) _ (cond-true _ _ _ there ∙ ap (takes_in k s l) e ∙ cond-false _ _ _ not_full)
      (λ i. record { number = s.number; table = same i; room = s.room; trials = map (map (kept_read k)) (sym (none_kept (kept k s.table l)) i) })

  module _ (laws : Lawful k) (x y : ℕ) (g : R) (m : Meeting R S) (meets : Meets k s.table x y g m) (u : Unit {0}) (told : Ok u ≡ cond (on s x && on s y) (Ok tt) (Err OffSheet)) where
    both_there : both_on (note x y g) ≡ true
    both_there = found _ u told

    same_empty : empty k m.left ≡ empty k (meeting k s.table x y g).left
    same_empty = empty_met k laws s.table x y g m meets

    pub note_accepted : (u : List (Node R S)) → empty k m.left ≡ false → u ≡ joined k s.table m → Step k s (enter (note x y g)) accepted (with_table u)
    note_accepted u some is =
        step_accepted u _ (note x y g) both_there (cond-false _ _ _ (sym same_empty ∙ some)) (ap (table_read k) is ∙ joined_met k laws s.table x y g m meets some)

    pub note_contrary : empty k m.left ≡ true → Step k s (enter (note x y g)) (refused 6) s
    note_contrary none = step_contrary (note x y g) both_there (cond-true _ _ _ (sym same_empty ∙ none))

  module _ (laws : Lawful k) (x : ℕ) (q : S) (n : Narrowing S) (narrows : Narrows k s.table x q n) (u : Unit {0}) (told : Ok u ≡ cond (on s x) (Ok tt) (Err OffSheet)) where
    there : on s x ≡ true
    there = found _ u told

    pub see_accepted : (u : List (Node R S)) → empty k n.left ≡ false → u ≡ settled k s.table n.reference n.left → Step k s (enter (see x q)) accepted (with_table u)
    see_accepted u some is =
        step_accepted u _ (see x q) (and_from _ _ there there) (cond-false _ _ _ (sym (empty_narrowed k laws s.table x q n narrows) ∙ some))
        (ap (table_read k) is ∙ settled_narrowed k laws s.table x q n narrows some)

    pub see_contrary : empty k n.left ≡ true → Step k s (enter (see x q)) (refused 6) s
    see_contrary none = step_contrary (see x q) (and_from _ _ there there) (cond-true _ _ _ (sym (empty_narrowed k laws s.table x q n narrows) ∙ none))
