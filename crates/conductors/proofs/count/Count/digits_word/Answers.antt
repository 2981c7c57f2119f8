use Rattle.std.proofs.Common.{◌∙◌, sym, arith}
use Rattle.conductors.specs.Masks.{bit}
use Rattle.conductors.proofs.Spelled.{digits_zero, spelled_short, spelled_with, spelled_without}
use Rattle.conductors.proofs.count.Count.digits_word.Goals as goal
use Rattle.conductors.proofs.count.Count.digits_word.Goals.{then-holds, else-holds}

pub loop-v-init : goal.loop-v-init
loop-v-init c = c.of-word.ensures ∙ digits_zero (bit c.args.s)

pub write_digit-requires-clause-room : goal.write_digit-requires-clause-room
write_digit-requires-clause-room c = omega (arith, spelled_short _ _ _ c.loop-v.invariant)

pub loop-v-preserved : goal.loop-v-preserved
loop-v-preserved c =
    let so_far = c.loop-v.invariant in
    elim c.if-holds.branch [
      | then-holds w ↦ w.word-is ∙ w.write_digit.ensures ∙ spelled_with _ _ _ so_far (sym w.if-holds.true ∙ c.holds.ensures)
      | else-holds w ↦ w.word-is ∙ spelled_without _ _ _ so_far (sym w.if-holds.false ∙ c.holds.ensures)
    ]
