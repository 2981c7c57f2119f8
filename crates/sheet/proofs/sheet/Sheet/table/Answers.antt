use Rattle.std.proofs.Common.{ap, ◌∙◌}
use Rattle.sheet.proofs.Used.{front_or_all}
use Rattle.sheet.proofs.sheet.Sheet.table.Goals as goal

pub returns : goal.returns
returns g c = ap (λ r. r.now) c.unwrap_or.ensures ∙ front_or_all 256 _ c.get.result c.get.ensures.lookup.0
