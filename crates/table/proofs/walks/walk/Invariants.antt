use Rattle.std.proofs.Common.{◌-◌, length}
use Rattle.table.proofs.Along.{Along}
use Rattle.table.proofs.walks.walk.Given as goal

abbrev pub invariant-loop : goal.invariant-loop
invariant-loop g l = Along g.K.Kind l.nodes l.x (length l.nodes - l.counter) l.reference l.relation
