use Rattle.std.proofs.Common.{◌≡◌}
use Rattle.conductors.specs.Masks.{bit}
use Rattle.conductors.specs.OrderWords.{digits}
use Rattle.conductors.proofs.count.Count.digits_word.Given as goal

abbrev pub invariant-loop-v : goal.invariant-loop-v
invariant-loop-v l = l.word ≡ digits (bit l.s) l.v
