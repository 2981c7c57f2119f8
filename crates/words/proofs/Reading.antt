-- What is read has the field for its word, and what has it is read.
use Rattle.std.proofs.Common.{◌≡◌, ℕ, Bool, true, false, cond, List, [], ◌∷◌, is_some, Some, None, sym, refl, ap, arith}
use Rattle.std.specs.Str.{bytes_eq}
use Rattle.std.proofs.lemmas.Slice.Eq.{bytes_eq-Decides}
use Rattle.std.proofs.lemmas.Bool.{cond-true}
use Rattle.words.specs.Reading.{first_with}

-- nothing is read as nothing
pub unread : {X Y : Type 0} {x : X} → None ≡ Some x → Y
unread e = absurd (grind arith)

pub first_with_word : {X : Type 0} (word : X → List ℕ) (xs : List X) (field : List ℕ) (x : X) → first_with word xs field ≡ Some x → word x ≡ field
first_with_word word [] field x e = unread e
first_with_word word (y ∷ ys) field x e = chosen (bytes_eq field (word y)) refl e (first_with_word word ys field x)
  where
    chosen : (b : Bool) → bytes_eq field (word y) ≡ b → cond b (Some y) (first_with word ys field) ≡ Some x → (first_with word ys field ≡ Some x → word x ≡ field) → word x ≡ field
    chosen true same here rest =
        let read = (bytes_eq-Decides field (word y)).0 same in
        let is : y ≡ x = cc in
        cc
    chosen false same here rest = rest here

-- what has the field for its word is found
pub first_with_itself : {X : Type 0} (word : X → List ℕ) (x : X) (field : List ℕ) → word x ≡ field → is_some (first_with word (x ∷ []) field) ≡ true
first_with_itself word x field e = ap is_some (cond-true _ _ _ ((bytes_eq-Decides field (word x)).1 (sym e)))
