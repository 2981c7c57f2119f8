use Rattle.std.proofs.Common.{arith}
use Rattle.kind.proofs.Lawful.{lawful}
use Rattle.table.proofs.Along.{begins, goes_on, stops, spent}
use Rattle.table.proofs.walks.walk.Goals as goal
use Rattle.table.proofs.walks.walk.Goals.{else-loop-test, then-loop-test+then-node-reference}

pub loop-init : goal.loop-init
loop-init g c = begins g.K.Kind (lawful g.met.K.Kind) _ _ _ _ (omega arith) c.identity-relation.ensures

pub loop-preserved : goal.loop-preserved
loop-preserved g c =
    goes_on g.K.Kind (lawful g.met.K.Kind) _ _ _ _ _ _ _ _ c.loop.invariant (omega (arith, c.loop-test.true)) (omega arith) c.load-node.ensures c.if-node-reference.false c.after-relation.ensures

pub returns-clause-walked : goal.returns-clause-walked
returns-clause-walked g c =
    elim c.loop-test.branch [
      | else-loop-test w ↦ spent g.K.Kind (lawful g.met.K.Kind) _ _ _ _ _ c.loop.invariant (omega (arith, w.loop-test.false))
      | then-loop-test+then-node-reference w ↦ stops g.K.Kind (lawful g.met.K.Kind) _ _ _ _ _ _ c.loop.invariant w.load-node.ensures w.if-node-reference.true
    ]
