use Rattle.std.proofs.Common.{◌≡◌, ◌+◌, ◌-◌, ◌/◌, sym, ap, ◌∙◌, arith}
use Rattle.conductors.specs.Orders.{brings}
use Rattle.conductors.proofs.OrderSteps.{brings_first, brings_next}
use Rattle.conductors.proofs.orders.+source.Goals as goal

later : (t : _) (c : goal.After-source t) → c.source.result + 1 ≡ brings c.args.n c.args.k c.args.w
later t c =
    ap (λ r. r + 1) (c.source.ensures.is ∙ ap (brings (c.args.n - 1) (c.args.k / c.args.n)) c.close_up.ensures)
    ∙ sym (brings_next c.args.n c.args.k c.args.w (omega arith) c.if-w-k.false)

pub returns-then-w-k-clause-is : goal.returns-then-w-k-clause-is
returns-then-w-k-clause-is t c = sym (brings_first c.args.n c.args.k c.args.w (omega arith) c.if-w-k.true)

pub returns-else-w-k-clause-is : goal.returns-else-w-k-clause-is
returns-else-w-k-clause-is t c = later t c
