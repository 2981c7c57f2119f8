-- The front of a list, where it is long enough to have one, and else all of it.
use Rattle.std.proofs.Common.{◌≡◌, ℕ, ◌+◌, ◌<◌, ◌≤◌, ◌⊎◌, inl, inr, List, length, take, Some, None, Option, Bor, MatchOption, sym, ap, ◌∙◌, arith, take_all}
use Rattle.std.specs.List.{slice_range}
use Rattle.std.specs.Option.{unwrap_or}

pub front_or_all : {X : Type 0} (n : ℕ) (xs : Bor (List X)) (o : Option (Bor (List X)))
    → MatchOption o ((n < 0) ⊎ (length xs.now < n)) (λ x. (0 ≤ n) × (n ≤ length xs.now) × (x.now ≡ slice_range xs.now 0 n) × (length x.now + 0 ≡ n))
    → (unwrap_or o xs).now ≡ take n xs.now
front_or_all n xs None (inl h) = absurd (omega arith)
front_or_all n xs None (inr h) = sym (take_all n xs.now (omega arith))
front_or_all n xs (Some x) h = h.2 ∙ ap (λ k. take k xs.now) (omega arith)
