use Rattle.std.proofs.Common.{◌≡◌}
use Rattle.std.proofs.Common.{◌+◌, map}
use Rattle.std.specs.List.{range_with_len}
use Rattle.conductors.specs.Orders.{takes}
use Rattle.conductors.proofs.count.Count.order_word.Given as goal

abbrev pub invariant-loop-v : goal.invariant-loop-v
invariant-loop-v l = l.word ≡ map (λ v. 49 + takes l.self.number l.g v) (range_with_len 0 l.v)
