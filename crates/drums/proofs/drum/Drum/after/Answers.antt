use Rattle.std.proofs.Common.{rules}
use Rattle.drums.specs.Modulo.{product_some}
use Rattle.drums.proofs.drum.Drum.after.Goals as goal

pub invariant_of-result : goal.invariant_of-result
invariant_of-result c = search (rules, product_some)
