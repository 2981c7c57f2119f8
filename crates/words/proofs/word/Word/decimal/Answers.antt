use Rattle.std.proofs.Common.{◌∙◌, arith}
use Rattle.words.proofs.Spelling.{left_all, left_room, left_less, left_none}
use Rattle.words.proofs.word.Word.decimal.Goals as goal

pub loop-front-init : goal.loop-front-init
loop-front-init c = left_all c.args.n (omega arith)

pub overflow_sub-at : goal.overflow_sub-at
overflow_sub-at c = left_room _ _ _ _ c.loop-front.invariant c.loop-front-test.true

pub loop-front-preserved : goal.loop-front-preserved
loop-front-preserved c = left_less _ _ _ _ c.loop-front.invariant c.loop-front-test.true

pub returns : goal.returns
returns c = c.of.ensures ∙ left_none _ _ _ _ c.loop-front.invariant c.loop-front-test.false
