use Rattle.std.proofs.Common.{arith}
use Rattle.drums.specs.Modulo.{inverse_some, inverse_low, power_249}
use Rattle.drums.proofs.relation.reciprocal.Goals as goal

pub returns : goal.returns
returns c =
    let a = c.args.a in
    let is = power_249 a _ _ _ c.fourth.ensures c.fourth-2.ensures c.fourth-3.ensures in
    let some = inverse_some a c.requires.0 c.requires.1 in
    let low = inverse_low a in
    record { value = is; some = omega arith; low = omega arith }
