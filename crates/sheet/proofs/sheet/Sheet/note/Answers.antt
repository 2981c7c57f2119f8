use Rattle.std.proofs.Common.{◌<◌, take, drop, sym, refl, ap, ◌∙◌, arith}
use Rattle.kind.proofs.Lawful.{lawful}
use Rattle.table.proofs.Front.{joined_front, joined_past}
use Rattle.sheet.specs.View.{view}
use Rattle.sheet.proofs.Entering.{note_contrary, note_accepted}
use Rattle.sheet.proofs.Framing.{log_kept}
use Rattle.sheet.proofs.sheet.Sheet.note.Goals as goal

pub returns-then-is_empty-clause-step : goal.returns-then-is_empty-clause-step
returns-then-is_empty-clause-step g c =
    note_contrary g.K.Kind (view c.args.self.now) refl (lawful g.met.K.Kind) _ _ _ _ (rw c.table.ensures at c.meet-meeting.ensures) _ c.in_ok-check_both.ensures
    (sym c.if-is_empty.ensures)

pub returns-clause-step : goal.returns-clause-step
returns-clause-step g c =
    let m = c.meet-meeting.result in
    let low : m.first < 256 = omega (arith, c.meet-meeting.type_inv) in
    let high : m.second < 256 = omega (arith, c.meet-meeting.type_inv) in
    note_accepted g.K.Kind (view c.args.self.now) refl (lawful g.met.K.Kind) _ _ _ m (rw c.table.ensures at c.meet-meeting.ensures) _ c.in_ok-check_both.ensures
    _ (sym c.if-is_empty.ensures) (ap (take 256) c.join.ensures ∙ joined_front g.K.Kind 256 _ m low high)

pub returns-clause-keeps : goal.returns-clause-keeps
returns-clause-keeps g c =
    let m = c.meet-meeting.result in
    let low : m.first < 256 = omega (arith, c.meet-meeting.type_inv) in
    let high : m.second < 256 = omega (arith, c.meet-meeting.type_inv) in
    log_kept _ _ (ap (drop 256) c.join.ensures ∙ joined_past g.K.Kind 256 _ m low high) refl refl
