-- Fronts of lists.
use Rattle.std.proofs.Common.{◌≡◌, ℕ, min, List, length, take, sym, ap, ◌∙◌, ⊎_elim, arith, take_all}
use Rattle.std.proofs.lemmas.Bool.{cases_lt}

pub take_min : {X : Type 0} (n : ℕ) (xs : List X) → take (min (length xs) n) xs ≡ take n xs
take_min n xs =
    ⊎_elim
    (λ h. let e : min (length xs) n ≡ length xs = omega arith in ap (λ m. take m xs) e ∙ take_all (length xs) xs (omega arith) ∙ sym (take_all n xs (omega arith)))
    (λ h. let e : min (length xs) n ≡ n = omega arith in ap (λ m. take m xs) e)
    (cases_lt (length xs) n)
