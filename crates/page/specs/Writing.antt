-- What a write makes of a listing under way.
use Rattle.std.specs.Prelude.{◌≡◌, ℕ, ◌+◌, ◌<◌, ◌≤◌, Bool, cond, List, length, Ok, Err, Result, MatchResult, nat_le}
use Rattle.page.specs.Filled.{overlaid}
use Rattle.page.specs.Wiped.{limit, wiped}
use Rattle.page.specs.declared.full.PageFull.{PageFull}
use Rattle.page.specs.declared.full.PageFull.TheVariants.{Full}
use Rattle.page.specs.declared.guard.Guard.{Guard}

-- whether a text fits at a mark
abbrev pub has_room : List ℕ → ℕ → List ℕ → Bool
has_room bytes mark text = nat_le (mark + length text) (limit bytes)

-- what is answered to a text
abbrev pub told : List ℕ → ℕ → List ℕ → Result (Unit {0}) PageFull
told bytes mark text = cond (has_room bytes mark text) (Ok tt) (Err Full)

-- b is the listing that a is: over the same bytes and mark, with the same start
pub record SameListing (a b : Guard) : Type 0 where
  pub from : b.old ≡ a.old
  pub lent : b.bytes.ghost_name ≡ a.bytes.ghost_name
  pub lent_mark : b.mark.ghost_name ≡ a.mark.ghost_name

-- b is a with a text written at its mark
pub record Adds (a b : Guard) (text : List ℕ) : Type 0 where
  pub holds : b.bytes.now ≡ overlaid a.bytes.now a.mark.now text
  pub ends : b.mark.now ≡ a.mark.now + length text
  pub fits : a.mark.now + length text ≤ limit a.bytes.now
  pub same : SameListing a b

-- the text does not fit, and b has written nothing before a's mark
pub record Refuses (a b : Guard) (text : List ℕ) : Type 0 where
  pub over : limit a.bytes.now < a.mark.now + length text
  pub back : (m : ℕ) → m ≤ a.mark.now → wiped b.bytes.now m ≡ wiped a.bytes.now m
  pub same : SameListing a b

-- the text is written whole, or refused
abbrev pub Writes : Guard → Guard → List ℕ → Result (Unit {0}) PageFull → Type 0
Writes a b text r = MatchResult r (λ _. Adds a b text) (λ _. Refuses a b text)
