use Rattle.std.proofs.Common.{refl}
use Rattle.kind.proofs.Lawful.{lawful, worded}
use Rattle.rules.specs.State.{new_sheet}
use Rattle.rules.proofs.Successions.{whatever_follows, makes, bounded}
use Rattle.rules.proofs.rules_hold.Goals as goal

pub returns : goal.returns
returns g c =
    let k = g.K.Kind in
    let laws = lawful g.met.K.Kind in
    let words = worded g.met.K.Kind in
    record {
      follows = λ n number room few. whatever_follows k laws words n number room (new_sheet k number n room) few refl;
      makes = λ s c' o s' step. makes k laws words s s' c' o step;
      bounded = λ s. bounded k laws words s;
    }
