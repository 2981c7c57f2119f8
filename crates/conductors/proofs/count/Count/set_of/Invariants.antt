use Rattle.std.proofs.Common.{◌≡◌, ℕ, Bool}
use Rattle.conductors.specs.Below.{GivesBelow}
use Rattle.conductors.specs.Masks.{mask}
use Rattle.conductors.proofs.count.Count.set_of.Given as goal

abbrev pub invariant-loop-v : goal.invariant-loop-v
invariant-loop-v g l = (p : ℕ → Bool) → GivesBelow (goal.F-post g l.belongs) p l.fn.self.number → l.s ≡ mask p l.v
