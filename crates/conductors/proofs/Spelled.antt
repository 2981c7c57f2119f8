-- Digits that are written from the lowest on.
use Rattle.std.proofs.Common.{◌≡◌, ℕ, ◌+◌, ◌≤◌, Bool, true, false, cond, List, [], ◌∷◌, ◌++◌, length, sym, refl, ap, ◌∙◌, add-one}
use Rattle.std.proofs.lemmas.List.{append-nil}
use Rattle.kind.proofs.Members.{members_le}
use Rattle.conductors.specs.OrderWords.{digits}
use Rattle.conductors.specs.Digits.{digits_long}

pub digits_zero : (p : ℕ → Bool) → [] ≡ digits p 0
unfolding digits
digits_zero p = refl

digits_one_more : (p : ℕ → Bool) (v : ℕ) (b : Bool) → b ≡ p v → digits p v ++ cond b ((49 + v) ∷ []) [] ≡ digits p (v + 1)
unfolding digits
digits_one_more p v b e = (λ i. digits p v ++ cond (e i) ((49 + v) ∷ []) []) ∙ ap (digits p) (sym (add-one v))

module _ (p : ℕ → Bool) (word : List ℕ) (v : ℕ) (so_far : word ≡ digits p v) where
  pub spelled_short : length word ≤ v
  spelled_short = rw (so_far, digits_long) (members_le p v)

  -- v belongs to them
  pub spelled_with : true ≡ p v → word ++ (49 + v) ∷ [] ≡ digits p (v + 1)
  spelled_with e = ap (λ w. w ++ (49 + v) ∷ []) so_far ∙ digits_one_more p v true e

  -- v does not
  pub spelled_without : false ≡ p v → word ≡ digits p (v + 1)
  spelled_without e = so_far ∙ sym (append-nil (digits p v)) ∙ digits_one_more p v false e
