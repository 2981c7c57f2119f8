use Rattle.std.proofs.Common.{◌≡◌, ℕ, ◌<◌, get_or, length}
use Rattle.conductors.specs.Below.{GivesBelow}
use Rattle.conductors.proofs.count.Count.order_of.Given as goal

abbrev pub invariant-loop-v : goal.invariant-loop-v
invariant-loop-v g l =
    (length l.places ≡ 4)
    × ((f : ℕ → ℕ) → GivesBelow (goal.F-post g l.place) f l.self.number → (k : ℕ) → k < l.v → get_or l.places k 0 ≡ f k)
