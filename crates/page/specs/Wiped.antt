-- The bytes that a page uses, and zeros past a mark.
use Rattle.std.specs.Prelude.{◌≡◌, ℕ, ◌-◌, ◌≤◌, min, max, List, ◌++◌, length, take, drop, replicate}

-- how many bytes are in use
abbrev pub limit : List ℕ → ℕ
limit bytes = min (length bytes) 65536

-- the bytes with zeros from a to the limit
unfoldable pub wiped : List ℕ → ℕ → List ℕ
wiped bytes a = take a bytes ++ (replicate (limit bytes - a) 0 ++ drop (max a (limit bytes)) bytes)

-- the mark lies in the bytes in use, and those past it are zero
pub record BlankFrom (bytes : List ℕ) (mark : ℕ) : Type 0 where
  pub within : mark ≤ limit bytes
  pub zeros : wiped bytes mark ≡ bytes
