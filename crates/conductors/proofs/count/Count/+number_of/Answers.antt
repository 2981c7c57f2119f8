use Rattle.std.proofs.Common.{◌≡◌, ◌+◌, ◌-◌, ◌*◌, ◌%◌, ◌<◌, get_or, sym, ap, ◌∙◌, arith}
use Rattle.conductors.specs.Orders.{numbered}
use Rattle.conductors.specs.OrderNumbers.{numbered_alike, numbered_small}
use Rattle.conductors.proofs.OrderSteps.{numbered_none, numbered_next, rest_places}
use Rattle.conductors.proofs.count.Count.+number_of.Goals as goal

whole : (t : _) (c : goal.After-number_of t) → get_or c.args.places 0 0 % c.args.self.number + c.args.self.number * c.number_of.result ≡ numbered c.args.self.number (λ v. get_or c.args.places v 0)
whole t c =
    let n = c.args.self.number in
    let p = c.args.places in
    ap (λ r. get_or p 0 0 % n + n * r)
    (c.number_of.ensures
    ∙ numbered_alike (n - 1) _ _ (λ v (h : v < n - 1).
    rest_places p _ _ _ c.close_up.ensures c.close_up-2.ensures c.close_up-3.ensures v (omega arith)))
    ∙ sym (numbered_next n (λ v. get_or p v 0) (omega arith))

pub overflow_mul-result : goal.overflow_mul-result
overflow_mul-result t c = omega (arith, whole t c, numbered_small c.args.self.number (λ v. get_or c.args.places v 0) c.args.self.few)

pub overflow_add-result : goal.overflow_add-result
overflow_add-result t c = omega (arith, whole t c, numbered_small c.args.self.number (λ v. get_or c.args.places v 0) c.args.self.few)

pub returns-then-n-eq0 : goal.returns-then-n-eq0
returns-then-n-eq0 t c = sym (numbered_none c.args.self.number (λ v. get_or c.args.places v 0) c.if-n-eq0.true)

pub returns : goal.returns
returns t c = whole t c
