use Rattle.std.proofs.Common.{◌%◌, sym, ap, ◌∙◌, arith}
use Rattle.conductors.specs.Orders.{past, takes}
use Rattle.conductors.proofs.OrderSteps.{takes_first, takes_next}
use Rattle.conductors.proofs.orders.+place.Goals as goal

pub returns-then-v-eq0-clause-is : goal.returns-then-v-eq0-clause-is
returns-then-v-eq0-clause-is t c = sym (ap (takes c.args.n c.args.k) c.if-v-eq0.true ∙ takes_first c.args.n c.args.k (omega arith))

pub returns-else-v-eq0-clause-is : goal.returns-else-v-eq0-clause-is
returns-else-v-eq0-clause-is t c =
    c.open_up.ensures ∙ ap (past (c.args.k % c.args.n)) c.place.ensures.is
    ∙ sym (takes_next c.args.n c.args.k c.args.v (omega arith) (omega arith))
