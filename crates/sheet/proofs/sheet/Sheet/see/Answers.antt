use Rattle.std.proofs.Common.{◌<◌, take, drop, sym, refl, ap, ◌∙◌, arith}
use Rattle.kind.proofs.Lawful.{lawful}
use Rattle.table.proofs.Front.{settled_front, settled_past}
use Rattle.sheet.specs.View.{view}
use Rattle.sheet.proofs.Entering.{see_contrary, see_accepted}
use Rattle.sheet.proofs.Framing.{log_kept}
use Rattle.sheet.proofs.sheet.Sheet.see.Goals as goal

pub returns-then-is_empty-clause-step : goal.returns-then-is_empty-clause-step
returns-then-is_empty-clause-step g c =
    see_contrary g.K.Kind (view c.args.self.now) refl (lawful g.met.K.Kind) _ _ _ (rw c.table.ensures at c.narrow-narrowing.ensures) _ c.in_ok-check.ensures
    (sym c.if-is_empty.ensures)

pub returns-clause-step : goal.returns-clause-step
returns-clause-step g c =
    let n = c.narrow-narrowing.result in
    let low : n.reference < 256 = omega (arith, c.narrow-narrowing.type_inv) in
    see_accepted g.K.Kind (view c.args.self.now) refl (lawful g.met.K.Kind) _ _ n (rw c.table.ensures at c.narrow-narrowing.ensures) _ c.in_ok-check.ensures
    _ (sym c.if-is_empty.ensures) (ap (take 256) c.settle.ensures ∙ settled_front g.K.Kind 256 _ n.reference n.left low)

pub returns-clause-keeps : goal.returns-clause-keeps
returns-clause-keeps g c =
    let n = c.narrow-narrowing.result in
    let low : n.reference < 256 = omega (arith, c.narrow-narrowing.type_inv) in
    log_kept _ _ (ap (drop 256) c.settle.ensures ∙ settled_past g.K.Kind 256 _ n.reference n.left low) refl refl
