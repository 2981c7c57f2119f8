use Rattle.std.proofs.Common.{◌≡◌, length, length-take, take, arith, rules}
use Rattle.table.proofs.Fresh.{renewed_more, renewed_all}
use Rattle.table.proofs.storage.renew.Goals as goal

pub loop-x-preserved : goal.loop-x-preserved
loop-x-preserved g c = renewed_more g.K.Kind _ _ c.loop-x.x _ c.loop-x.invariant (omega arith) (search rules)

pub returns : goal.returns
returns g c =
    let count : length (take c.min-end.result c.args.nodes.now) ≡ c.min-end.result = simp length-take (omega arith) in
    renewed_all g.K.Kind 256 c.args.nodes.now _ c.loop-x.x _ c.loop-x.invariant (omega arith) c.min-end.ensures
