-- A question x, y, g: is the value of x g applied to the value of y?
use Rattle.std.specs.Prelude.{ℕ, Bool, cond, ◌&&◌, List, codes, ◌==◌}
use Rattle.kind.specs.declared.Kind.{Ghosts}
use Rattle.table.specs.declared.node.Node.{Node}
use Rattle.table.specs.declared.questions.Answer.{Answer}
use Rattle.table.specs.declared.questions.Answer.TheVariants.{Holds, Barred, Open}
use Rattle.table.specs.Table.{at}
use Rattle.table.specs.Walk.{walked}
use Rattle.table.specs.Note.{empty, left, between}

-- an answer as it is printed
abbrev pub answer_word : Answer → List ℕ
answer_word Holds = codes "holds"
answer_word Barred = codes "barred"
answer_word Open = codes "open"

module _ {K R S : Type 0} (k : Ghosts K R S) (t : List (Node R S)) where
  abbrev pub one_value : ℕ → Bool
  one_value r = k.count (at k t r).set == 1

  -- what is certain where r1 = h·r2 is not barred
  abbrev pub sure : ℕ → ℕ → R → Bool
  sure r1 r2 h = cond (r1 == r2) (k.inside (at k t r1).set (k.fixed h)) (one_value r1 && one_value r2)

  -- the answer for references r1 and r2, and r1 = h·r2
  abbrev pub asked_at : ℕ → ℕ → R → Answer
  asked_at r1 r2 h = cond (empty k (left k t r1 r2 h)) Barred (cond (sure r1 r2 h) Holds Open)

  abbrev pub asked : ℕ → ℕ → R → Answer
  asked x y g = asked_at (walked k t x).reference (walked k t y).reference (between k t x y g)
