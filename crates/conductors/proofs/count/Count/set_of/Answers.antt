use Rattle.std.proofs.Common.{◌∙◌, sym, arith}
use Rattle.conductors.proofs.Gathered.{mask_zero, mask_with, mask_without}
use Rattle.conductors.proofs.count.Count.set_of.Goals as goal
use Rattle.conductors.proofs.count.Count.set_of.Goals.{then-belongs, else-belongs}

pub loop-v-init : goal.loop-v-init
loop-v-init g c = λ p gives. mask_zero p

pub loop-v-preserved : goal.loop-v-preserved
loop-v-preserved g c = λ p gives.
    let so_far = c.loop-v.invariant p gives in
    let is = gives c.loop-v.v c.loop-v-test.true c.belongs.result c.belongs.ensures in
    elim c.if-belongs.branch [
      | then-belongs w ↦ w.s-is ∙ mask_with p _ _ so_far (omega arith) (sym w.if-belongs.true ∙ is)
      | else-belongs w ↦ w.s-is ∙ mask_without p _ _ so_far (sym w.if-belongs.false ∙ is)
    ]
