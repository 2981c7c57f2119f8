-- A page as its reader has it, and the pages that are zero past their mark.
use Rattle.std.specs.Prelude.{◌≡◌, ℕ, List, take, drop}
use Rattle.std.specs.Borrow.{MutBor}
use Rattle.page.specs.Filled.{Filled}
use Rattle.page.specs.Wiped.{wiped, BlankFrom}
use Rattle.page.specs.declared.page.Page.{Page}

-- the bytes in use, up to a mark
abbrev pub seen : List ℕ → ℕ → Filled
seen bytes mark = record { bytes = take 65536 bytes; mark = mark }

abbrev pub page_view : Page → Filled
page_view p = seen p.bytes.now p.mark

abbrev pub Blank : Page → Type 0
Blank p = BlankFrom p.bytes.now p.mark

-- the same bytes, of which those past a page's use are as they were
pub record SamePlace (old new : MutBor (List ℕ)) : Type 0 where
  pub past : drop 65536 new.now ≡ drop 65536 old.now
  pub lent : new.ghost_name ≡ old.ghost_name

-- a page with nothing on it, over bytes made zeros
pub record Emptied (old : MutBor (List ℕ)) (p : Page) : Type 0 where
  pub bytes : p.bytes.now ≡ wiped old.now 0
  pub mark : p.mark ≡ 0
  pub blank : Blank p
  pub place : SamePlace old p.bytes
