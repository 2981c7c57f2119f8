-- The bytes that may stand in a word: all but the tab and the line feed.
use Rattle.std.specs.Prelude.{ℕ, Bool, true, not, ◌&&◌, List, [], ◌∷◌, ◌==◌, nat_lt}

abbrev pub plain : ℕ → Bool
plain b = nat_lt b 256 && (not (b == 9) && not (b == 10))

abbrev pub all_plain : List ℕ → Bool
all_plain [] = true
all_plain (b ∷ bs) = plain b && all_plain bs
