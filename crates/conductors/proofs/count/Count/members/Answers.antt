use Rattle.std.proofs.Common.{ap, ◌∙◌}
use lib.Bits.{bit_and}
use Rattle.std.proofs.lemmas.Nat.{and_mask}
use Rattle.conductors.proofs.count.Count.members.Goals as goal

pub returns : goal.returns
returns c = ap (bit_and c.args.s) c.everything.ensures ∙ and_mask c.args.s c.args.self.number
