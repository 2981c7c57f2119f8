use Rattle.std.proofs.Common.{refl}
use Rattle.page.proofs.Emptying.{emptied}
use Rattle.page.proofs.page.Page.clear.Goals as goal

pub returns : goal.returns
returns c = emptied _ _ c.wipe.ensures refl refl
