use Rattle.std.proofs.Common.{nat_abs, decimal, ap, ◌∙◌, arith, to_z-of_z}
use Rattle.words.proofs.Spelling.{minus_first}
use Rattle.words.proofs.word.Word.signed.Goals as goal

pub returns : goal.returns
returns c =
    let back = to_z-of_z c.ranges.z in
    let size = c.unsigned_abs.ensures.value ∙ ap nat_abs back in
    c.append.ensures
    ∙ minus_first c.args.z _ _ (rw back at c.if-z-ge0.false) (omega arith) c.of-word.ensures (c.as_slice.ensures.bytes ∙ c.decimal-2.ensures ∙ ap decimal size)
