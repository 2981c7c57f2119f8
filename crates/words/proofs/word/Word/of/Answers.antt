use Rattle.words.proofs.Padding.{first_put, spelt_first}
use Rattle.words.proofs.word.Word.of.Goals as goal

pub invariant_of-result : goal.invariant_of-result
invariant_of-result c = first_put c.args.text.now _ _ c.min-len.ensures c.copy_from_slice.ensures.after

pub returns : goal.returns
returns c = spelt_first c.args.text.now _ _ c.min-len.ensures c.copy_from_slice.ensures.after
