-- The first bytes of a list.
use Rattle.std.proofs.Common.{◌≡◌, ℕ, min, List, length, take, sym, ap, ◌∙◌, arith, length-take, take-take}
use Rattle.std.proofs.lemmas.List.{take_min}

pub take_in_use : (n m : ℕ) (l : List ℕ) → take (min (min (length l) n) m) l ≡ take m (take n l)
take_in_use n m l =
    let e : min (min (length l) n) m ≡ min m (length (take n l)) = simp length-take (omega arith) in
    ap (λ k. take k l) e
    ∙ sym (take-take (min m (length (take n l))) n l (simp length-take (omega arith)))
    ∙ take_min m (take n l)
