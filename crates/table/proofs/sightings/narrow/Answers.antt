use Rattle.std.proofs.Common.{ap, ◌∙◌}
use Rattle.kind.proofs.Lawful.{lawful}
use Rattle.table.proofs.Found.{left_found}
use Rattle.table.proofs.sightings.narrow.Goals as goal

pub returns : goal.returns
returns g c =
    let k = g.K.Kind in
    let made = c.common-left.ensures ∙ ap (k.meet c.load-node.result.set) (c.moved.ensures ∙ ap (λ r. k.shift r c.args.s) c.inverse.ensures) in
    record {
      reference = ap (λ w. w.reference) c.walk-route.ensures.walked;
      left = λ v low. ap (λ s. k.has s v) made
          ∙ left_found k (lawful g.met.K.Kind) c.args.nodes.now c.walk-route.result _ c.args.s c.load-node.result c.walk-route.ensures.walked c.load-node.ensures v low;
    }
