use Rattle.std.proofs.Common.{◌+◌, [], ◌∷◌, ◌++◌, length-append, ◌∙◌, arith}
use Rattle.std.proofs.lemmas.List.{take_all}
use Rattle.conductors.proofs.spelling.write_digit.Goals as goal

pub returns : goal.returns
returns c = c.append.ensures ∙ take_all 32 (c.args.word.now ++ (49 + c.args.v) ∷ []) (omega (arith, length-append c.args.word.now ((49 + c.args.v) ∷ []), c.requires.room))
