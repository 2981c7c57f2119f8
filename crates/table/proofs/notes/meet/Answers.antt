use Rattle.std.proofs.Common.{ap, rules}
use Rattle.kind.proofs.Lawful.{lawful}
use Rattle.table.proofs.Found.{between_found}
use Rattle.table.proofs.notes.meet.Goals as goal
use Rattle.table.proofs.notes.meet.Goals.{then-first-second, else-first-second}

pub returns : goal.returns
returns g c =
    record {
      first = ap (λ w. w.reference) c.walk-first.ensures.walked;
      second = ap (λ w. w.reference) c.walk-second.ensures.walked;
      by = between_found g.K.Kind (lawful g.met.K.Kind) c.args.nodes.now c.walk-first.result c.walk-second.result _ _ c.args.g c.combine-by.result
          c.walk-first.ensures.walked c.walk-second.ensures.walked c.combine-by.ensures;
      left_is = elim c.if-first-second.branch [ then-first-second w ↦ search rules | else-first-second w ↦ search rules ];
    }
