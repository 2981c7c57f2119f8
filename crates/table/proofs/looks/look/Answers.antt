use Rattle.std.proofs.Common.{sym, ap, ◌∙◌}
use Rattle.kind.specs.Same.{SameMembers}
use Rattle.kind.proofs.Lawful.{lawful}
use Rattle.kind.proofs.Alike.{none_alike, label_alike}
use Rattle.table.specs.Look.{looked}
use Rattle.table.proofs.Found.{looked_found}
use Rattle.table.proofs.looks.look.Goals as goal

pub returns : goal.returns
returns g c =
    let k = g.K.Kind in
    let laws = lawful g.met.K.Kind in
    let t = c.args.nodes.now in
    let same : SameMembers k c.moved.result (looked k t c.args.x) =
    λ v low. ap (λ s. k.has s v) c.moved.ensures ∙ looked_found k laws t c.walk-route.result _ c.load.result c.walk-route.ensures.walked c.load.ensures v low in
    record { members = same; label = λ some. label_alike k laws _ _ same (sym (none_alike k laws _ _ same) ∙ some) }
