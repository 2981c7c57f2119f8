use Rattle.std.proofs.Common.{◌+◌, [], ◌∷◌, ◌++◌, ◌∙◌, sym, arith}
use Rattle.std.proofs.lemmas.List.FromFn.{length-map-range_with_len, map-range_with_len_more}
use Rattle.conductors.specs.Orders.{takes}
use Rattle.conductors.proofs.count.Count.order_word.Goals as goal

pub write_digit-requires-clause-room : goal.write_digit-requires-clause-room
write_digit-requires-clause-room c = rw c.loop-v.invariant (omega (arith, length-map-range_with_len (λ v. 49 + takes c.args.self.number c.args.g v) 0 c.loop-v.v))

pub loop-v-preserved : goal.loop-v-preserved
loop-v-preserved c =
    c.write_digit.ensures
    ∙ (λ i. c.loop-v.invariant i ++ (49 + c.place.ensures.is i) ∷ [])
    ∙ sym (map-range_with_len_more (λ v. 49 + takes c.args.self.number c.args.g v) 0 c.loop-v.v c.loop-v.v (omega arith))
