-- A page's bytes and its mark after a text was written or refused.
use Rattle.std.specs.Prelude.{ℕ, ◌+◌, cond, List, length}
use Rattle.page.specs.Filled.{overlaid}
use Rattle.page.specs.Wiped.{wiped}
use Rattle.page.specs.Writing.{has_room}

abbrev pub bytes_with : List ℕ → ℕ → List ℕ → List ℕ
bytes_with bytes mark text = cond (has_room bytes mark text) (overlaid bytes mark text) (wiped bytes mark)

abbrev pub mark_with : List ℕ → ℕ → List ℕ → ℕ
mark_with bytes mark text = cond (has_room bytes mark text) (mark + length text) mark
