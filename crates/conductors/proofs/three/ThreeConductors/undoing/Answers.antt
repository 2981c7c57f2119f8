use Rattle.std.proofs.Common.{sym, ◌∙◌}
use Rattle.std.proofs.lemmas.Bool.{eq-eqb, ne_eqb, cond-true, cond-false}
use Rattle.conductors.proofs.Threes.{three_back}
use Rattle.conductors.proofs.three.ThreeConductors.undoing.Goals as goal

pub returns-then-order-eq0 : goal.returns-then-order-eq0
returns-then-order-eq0 c = sym (cond-true _ _ _ (eq-eqb _ _ c.if-order-eq0.true)) ∙ three_back c.args.g

pub returns-else-order-eq0 : goal.returns-else-order-eq0
returns-else-order-eq0 c = sym (cond-false _ _ _ (ne_eqb _ _ c.if-order-eq0.false)) ∙ three_back c.args.g
