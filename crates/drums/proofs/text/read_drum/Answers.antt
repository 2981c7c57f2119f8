use Rattle.std.proofs.Common.{rules}
use Rattle.drums.specs.Bars.{too_many}
use Rattle.drums.proofs.text.read_drum.Goals as goal

pub returns-in_default : goal.returns-in_default
returns-in_default c = search (rules, too_many)
