use Rattle.std.proofs.Common.{rules}
use Rattle.kind.proofs.Lawful.{lawful}
use Rattle.table.proofs.Found.{told_met}
use Rattle.table.proofs.questions.ask.Goals as goal

pub returns-then-is_empty : goal.returns-then-is_empty
returns-then-is_empty g c = told_met g.K.Kind (lawful g.met.K.Kind) _ _ _ _ _ c.meet-meeting.ensures _ (search rules)

pub returns-then-is_sure : goal.returns-then-is_sure
returns-then-is_sure g c = told_met g.K.Kind (lawful g.met.K.Kind) _ _ _ _ _ c.meet-meeting.ensures _ (search rules)

pub returns-else-is_sure : goal.returns-else-is_sure
returns-else-is_sure g c = told_met g.K.Kind (lawful g.met.K.Kind) _ _ _ _ _ c.meet-meeting.ensures _ (search rules)
