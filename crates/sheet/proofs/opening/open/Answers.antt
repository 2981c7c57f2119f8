use Rattle.std.proofs.Common.{◌/◌, min, [], length, take, drop, refl, ap, ◌∙◌}
use Rattle.table.proofs.Fresh.{fresh_front, fresh_past}
use Rattle.sheet.proofs.opening.open.Goals as goal

pub returns : goal.returns
returns g c =
    let k = g.K.Kind in
    let front = ap (take 256) c.renew.ensures ∙ fresh_front k 256 c.args.nodes.now in
    record {
      state = λ i. record { number = c.args.number; table = front i; room = min (length c.args.log.now) 512 / 2; trials = [] };
      past = ap (drop 256) c.renew.ensures ∙ fresh_past k 256 c.args.nodes.now;
      log = refl;
      nodes_lent = refl;
      log_lent = refl;
    }
