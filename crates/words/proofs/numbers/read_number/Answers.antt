use Rattle.std.proofs.Common.{◌∙◌, arith, rules}
use Rattle.std.proofs.lemmas.Str.Parse.{digit_at}
use Rattle.words.proofs.Numerals.{read_more, read_few, read_all, refused, judged}
use Rattle.words.proofs.numbers.read_number.Goals as goal

pub returns-then-is_empty : goal.returns-then-is_empty
returns-then-is_empty c = refused c.args.field.now (λ n lt m. grind (arith, m.plain))

pub returns-then-not-is_ascii_digit : goal.returns-then-not-is_ascii_digit
returns-then-not-is_ascii_digit c =
    refused c.args.field.now (λ n lt m.
    grind (arith, digit_at c.args.field.now c.loop-b.b-index m.digits c.loop-b-test.true, c.if-not-is_ascii_digit.ensures.cases))

pub overflow_mul-number : goal.overflow_mul-number
overflow_mul-number c = omega (arith, read_few c.args.field.now _ _ c.loop-b.invariant (omega arith))

pub overflow_add-number : goal.overflow_add-number
overflow_add-number c = omega (arith, read_few c.args.field.now _ _ c.loop-b.invariant (omega arith))

pub loop-b-preserved : goal.loop-b-preserved
loop-b-preserved c = rw c.from.ensures (read_more c.args.field.now _ _ c.loop-b.invariant c.loop-b-test.true c.if-not-is_ascii_digit.ensures.cases)

pub returns : goal.returns
returns c =
    let m = read_all c.args.field.now _ _ c.loop-b.invariant c.loop-b-test.false (search rules) (search rules) (λ e. grind arith) in
    c.ok.ensures.value ∙ judged c.args.field.now _ _ m c.try_from.ensures
