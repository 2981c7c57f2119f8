-- A page as its reader has it: the bytes in use, filled up to a mark.
use Rattle.std.specs.Prelude.{ℕ, ◌+◌, ◌-◌, List, ◌++◌, length, take, drop}

pub record Filled : Type 0 where
  pub bytes : List ℕ
  pub mark : ℕ

-- what is written on a page
abbrev pub filled : Filled → List ℕ
filled p = take p.mark p.bytes

-- the bytes with a text put at m
abbrev pub overlaid : List ℕ → ℕ → List ℕ → List ℕ
overlaid bytes m text = take m bytes ++ (text ++ drop (m + length text) bytes)

-- the page with a text written at its mark
abbrev pub wrote : Filled → List ℕ → Filled
wrote p text = record { bytes = overlaid p.bytes p.mark text; mark = p.mark + length text }

-- what was written between two states of a page
abbrev pub added : Filled → Filled → List ℕ
added p q = take (q.mark - p.mark) (drop p.mark q.bytes)
