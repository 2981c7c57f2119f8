use Rattle.std.proofs.Common.{◌∙◌, arith}
use Rattle.conductors.specs.OrderNumbers.{numbered_alike}
use Rattle.conductors.proofs.count.Count.order_of.Goals as goal

pub returns : goal.returns
returns g c = λ f gives.
    c.number_of.ensures ∙ numbered_alike c.args.self.number _ f (λ v low. c.loop-v.invariant.1 f gives v (omega arith))
