-- Standing lines: a list made from the calls, their arguments and whether each was refused.
use Rattle.std.specs.Prelude.{◌≡◌, ℕ, ◌+◌, ◌<◌, ◌≤◌, true, ◌↔◌, List, [], ◌∷◌, ◌++◌, length}
use Rattle.std.specs.List.{AllByRecursion}
use Rattle.kind.specs.declared.Kind.{Ghosts}
use Rattle.rules.specs.Lines.{Line, note, see, first_of, second_of}
use Rattle.rules.specs.Calls.{Call, enter, ask, suppose, adopt, retract, listing, Outcome, accepted, answered, handed, listed, refused}

-- the standing lines, and the copies that supposals keep of them, the last copy first
pub record Standing (R S : Type 0) : Type 0 where
  pub lines : List (Line R S)
  pub copies : List (List (Line R S))

module _ {R S : Type 0} where
  abbrev pub nothing_stands : Standing R S
  nothing_stands = record { lines = []; copies = [] }

  -- the last copy is the list again
  abbrev pub back_to : Standing R S → List (List (Line R S)) → Standing R S
  back_to st [] = st
  back_to st (copy ∷ copies) = record { lines = copy; copies = copies }

  abbrev pub one_fewer : List (List (Line R S)) → List (List (Line R S))
  one_fewer [] = []
  one_fewer (copy ∷ copies) = copies

  -- what stands after an accepted call
  abbrev pub stands : Standing R S → Call R S → Standing R S
  stands st (enter l) = record { lines = st.lines ++ (l ∷ []); copies = st.copies }
  stands st (ask x y g) = st
  stands st suppose = record { lines = st.lines; copies = st.lines ∷ st.copies }
  stands st (adopt slip) = record { lines = st.lines; copies = one_fewer st.copies }
  stands st (retract slip) = back_to st st.copies
  stands st (listing p) = st

  -- what stands after a call: one that is not refused is accepted, and a refused one changes nothing
  abbrev pub stands_after : Standing R S → Call R S → Outcome → Standing R S
  stands_after st c accepted = stands st c
  stands_after st c (answered a) = stands st c
  stands_after st c (handed slip) = stands st c
  stands_after st c (listed p) = stands st c
  stands_after st c (refused n) = st

  -- both points of the line are among the n of the sheet
  abbrev pub On : ℕ → Line R S → Type 0
  On n l = (first_of l < n) × (second_of l < n)

  -- a trial is open exactly when a copy is kept
  abbrev pub Open : Standing R S → Type 0
  Open st = ¬ (st.copies ≡ [])

  -- the lines that stood when the outermost open trial was supposed
  abbrev pub outermost : List (Line R S) → List (List (Line R S)) → List (Line R S)
  outermost ls [] = ls
  outermost ls (copy ∷ copies) = outermost copy copies

  -- the open trial has accepted its full number of lines
  abbrev pub Full : ℕ → Standing R S → Type 0
  Full room st = Open st × (length (outermost st.lines st.copies) + room ≤ length st.lines)

module _ {K R S : Type 0} (k : Ghosts K R S) where
  -- an assignment gives each of the n points a value
  abbrev pub Assigns : ℕ → (ℕ → ℕ) → Type 0
  Assigns n a = (x : ℕ) → x < n → a x < k.span

  abbrev pub Obeys : (ℕ → ℕ) → Line R S → Type 0
  Obeys a (note x y g) = a x ≡ k.act g (a y)
  Obeys a (see x s) = k.has s (a x) ≡ true

  abbrev pub ObeysAll : (ℕ → ℕ) → List (Line R S) → Type 0
  ObeysAll a ls = AllByRecursion (Obeys a) ls

  -- every assignment that obeys the lines obeys l
  abbrev pub Follows : ℕ → List (Line R S) → Line R S → Type 0
  Follows n ls l = (a : ℕ → ℕ) → Assigns n a → ObeysAll a ls → Obeys a l

  -- no assignment obeys both the lines and l
  abbrev pub Contrary : ℕ → List (Line R S) → Line R S → Type 0
  Contrary n ls l = (a : ℕ → ℕ) → Assigns n a → ObeysAll a ls → Obeys a l → ⊥

  -- the same assignments obey both lists
  abbrev pub SameObeyed : ℕ → List (Line R S) → List (Line R S) → Type 0
  SameObeyed n ls ms = (a : ℕ → ℕ) → Assigns n a → ObeysAll a ls ↔ ObeysAll a ms
