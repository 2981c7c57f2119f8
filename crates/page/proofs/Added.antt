-- What a page is after a text was written or refused.
use Rattle.std.proofs.Common.{◌≡◌, ℕ, ◌+◌, ◌≤◌, Bool, true, false, cond, List, length, drop, Ok, Err, Result, MutBor, refl, ap, ◌∙◌, MatchResult}
use Rattle.std.proofs.lemmas.Bool.{leb-true}
use Rattle.page.specs.Adding.{bytes_with, mark_with}
use Rattle.page.specs.Filled.{overlaid, wrote}
use Rattle.page.specs.Pages.{seen, SamePlace}
use Rattle.page.specs.Wiped.{limit, wiped, BlankFrom}
use Rattle.page.specs.Writing.{has_room, told}
use Rattle.page.specs.declared.full.PageFull.{PageFull}
use Rattle.page.specs.declared.full.PageFull.TheVariants.{Full}
use Rattle.page.proofs.Blanks.{blank_overlaid}
use Rattle.page.proofs.Wipes.{used_overlaid, past_overlaid, past_wiped}

module _ (bytes : List ℕ) (mark : ℕ) (text : List ℕ) where
  room : has_room bytes mark text ≡ true → mark + length text ≤ limit bytes
  room e = leb-true (mark + length text) (limit bytes) e

  pub past_with : drop 65536 (bytes_with bytes mark text) ≡ drop 65536 bytes
  past_with = split (has_room bytes mark text) refl
    where
      split : (b : Bool) → has_room bytes mark text ≡ b → drop 65536 (cond b (overlaid bytes mark text) (wiped bytes mark)) ≡ drop 65536 bytes
      split true e = past_overlaid bytes mark text (room e)
      split false e = past_wiped bytes mark

  pub blank_with : (after : List ℕ) (end : ℕ) → after ≡ bytes_with bytes mark text → end ≡ mark_with bytes mark text → BlankFrom bytes mark → BlankFrom after end
  blank_with after end is ends k = rw (is, ends) (split (has_room bytes mark text) refl)
    where
      split : (b : Bool) → has_room bytes mark text ≡ b → BlankFrom (cond b (overlaid bytes mark text) (wiped bytes mark)) (cond b (mark + length text) mark)
      split true e = blank_overlaid bytes mark text k (room e)
      split false e = rw k.zeros k

  pub view_with : (r : Result (Unit {0}) PageFull) (after : List ℕ) (end : ℕ) → r ≡ told bytes mark text → after ≡ bytes_with bytes mark text → end ≡ mark_with bytes mark text → MatchResult r (λ _. seen after end ≡ wrote (seen bytes mark) text) (λ _. BlankFrom bytes mark → seen after end ≡ seen bytes mark)
  view_with r after end = split (has_room bytes mark text) refl
    where
      split : (b : Bool) → has_room bytes mark text ≡ b → r ≡ cond b (Ok tt) (Err Full) → after ≡ cond b (overlaid bytes mark text) (wiped bytes mark) → end ≡ cond b (mark + length text) mark → MatchResult r (λ _. seen after end ≡ wrote (seen bytes mark) text) (λ _. BlankFrom bytes mark → seen after end ≡ seen bytes mark)
      split true e p q w =
          rw p ((λ j. seen (q j) (w j)) ∙ (λ j. record { bytes = used_overlaid bytes mark text (room e) j; mark = mark + length text }))
      split false e p q w = rw p (λ k. (λ j. seen (q j) (w j)) ∙ ap (λ l. seen l mark) k.zeros)

pub place_with : (old new : MutBor (List ℕ)) (mark : ℕ) (text : List ℕ) → new.now ≡ bytes_with old.now mark text → new.ghost_name ≡ old.ghost_name → SamePlace old new
place_with old new mark text is lent = record { past = ap (drop 65536) is ∙ past_with old.now mark text; lent = lent }
