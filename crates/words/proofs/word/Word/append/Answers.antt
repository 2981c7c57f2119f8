use Rattle.std.proofs.Common.{◌++◌, take, ap, ◌∙◌}
use Rattle.words.proofs.Padding.{appended, spelt_after}
use Rattle.words.proofs.word.Word.append.Goals as goal

pub invariant_of-self : goal.invariant_of-self
invariant_of-self c = appended _ c.args.text.now _ _ _ c.self.invariant c.min-more.ensures c.copy_from_slice.ensures.after

pub returns : goal.returns
returns c =
    spelt_after _ c.args.text.now _ _ _ c.self.invariant c.min-more.ensures c.copy_from_slice.ensures.after
    ∙ ap (λ word. take 32 (word ++ c.args.text.now)) c.self.view_is
