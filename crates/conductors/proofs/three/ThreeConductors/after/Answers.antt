use Rattle.std.proofs.Common.{sym, ◌∙◌}
use Rattle.std.proofs.lemmas.Bool.{eq-eqb, ne_eqb, cond-true, cond-false}
use Rattle.conductors.proofs.Threes.{three_after}
use Rattle.conductors.proofs.three.ThreeConductors.after.Goals as goal

pub returns-then-second-eq0 : goal.returns-then-second-eq0
returns-then-second-eq0 c = sym (cond-true _ _ _ (eq-eqb _ _ c.if-second-eq0.true)) ∙ three_after c.args.g c.args.h

pub returns-else-second-eq0 : goal.returns-else-second-eq0
returns-else-second-eq0 c = sym (cond-false _ _ _ (ne_eqb _ _ c.if-second-eq0.false)) ∙ three_after c.args.g c.args.h
