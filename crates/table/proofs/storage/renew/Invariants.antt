use Rattle.std.proofs.Common.{◌≡◌, ◌++◌, drop}
use Rattle.table.specs.Table.{fresh_from}
use Rattle.table.proofs.storage.renew.Given as goal

abbrev pub invariant-loop-x : goal.invariant-loop-x
invariant-loop-x g l = l.node-items ≡ fresh_from g.K.Kind 0 l.x ++ drop l.x l.initial.node-items
