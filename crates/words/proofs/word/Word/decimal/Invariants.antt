use Rattle.words.proofs.Spelling.{Left}
use Rattle.words.proofs.word.Word.decimal.Given as goal

abbrev pub invariant-loop-front : goal.invariant-loop-front
invariant-loop-front l = Left l.n l.digits l.at l.front

abbrev pub decreases-loop-front : goal.decreases-loop-front
decreases-loop-front l = l.front
