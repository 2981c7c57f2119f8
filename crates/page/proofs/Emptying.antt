-- A page wiped from its start.
use Rattle.std.proofs.Common.{◌≡◌, ℕ, List, MutBor, arith}
use Rattle.page.specs.Pages.{Emptied}
use Rattle.page.specs.Wiped.{wiped}
use Rattle.page.specs.declared.page.Page.{Page}
use Rattle.page.proofs.Blanks.{blank_wiped}
use Rattle.page.proofs.Wipes.{past_wiped}

pub emptied : (old : MutBor (List ℕ)) (p : Page) → p.bytes.now ≡ wiped old.now 0 → p.mark ≡ 0 → p.bytes.ghost_name ≡ old.ghost_name → Emptied old p
emptied old p bytes mark lent = record {
  bytes = bytes;
  mark = mark;
  blank = rw (bytes, mark) (blank_wiped old.now 0 (omega arith));
  place = record { past = rw bytes (past_wiped old.now 0); lent = lent };
}
