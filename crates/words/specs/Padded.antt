-- A word in the 32 bytes that hold it.
use Rattle.std.specs.Prelude.{◌≡◌, ℕ, ◌-◌, ◌≤◌, List, ◌++◌, length, take, drop, replicate}
use Rattle.std.proofs.Common.{sym, ap, ◌∙◌, arith, length-take}
use Rattle.std.proofs.lemmas.List.{take-append-drop}

-- the word has the first len bytes, and the rest are zeros
pub record Padded (bytes : List ℕ) (len : ℕ) : Type 0 where
  pub fits : len ≤ 32
  pub size : length bytes ≡ 32
  pub zeros : drop len bytes ≡ replicate (32 - len) 0

abbrev pub padded : List ℕ → List ℕ
padded text = text ++ replicate (32 - length text) 0

-- what is kept of the bytes tells all of them
pub restored : (bytes : List ℕ) (len : ℕ) → Padded bytes len → ◌≡◌ {A = List ℕ × ℕ} (padded (take len bytes), length (take len bytes)) (bytes, len)
restored bytes len p =
    let kept : length (take len bytes) ≡ len = length-take len bytes ∙ omega (arith, p.fits, p.size) in
    rw kept (ap (λ b. (b, len)) (ap (λ z. take len bytes ++ z) (sym p.zeros) ∙ take-append-drop len bytes))
