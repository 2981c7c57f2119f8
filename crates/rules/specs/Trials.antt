-- What the log keeps of the lines of a trial, and how it serves to take them back.
use Rattle.std.specs.Prelude.{List, [], ◌∷◌, ◌++◌, slice_set}
use Rattle.kind.specs.declared.Kind.{Ghosts}
use Rattle.table.specs.declared.node.Node.{Node}
use Rattle.table.specs.Table.{at}
use Rattle.table.specs.Walk.{walked}
use Rattle.rules.specs.Lines.{Line, first_of, second_of}
use Rattle.rules.specs.State.{Kept}

-- the references of the line's points, with their nodes before the line
abbrev pub kept : {K R S : Type 0} → Ghosts K R S → List (Node R S) → Line R S → Kept R S
kept k t l = record {
  first = (walked k t (first_of l)).reference;
  first_was = at k t (walked k t (first_of l)).reference;
  second = (walked k t (second_of l)).reference;
  second_was = at k t (walked k t (second_of l)).reference;
}

module _ {R S : Type 0} where
  -- one line more in the innermost trial, if one is open
  abbrev pub keep : Kept R S → List (List (Kept R S)) → List (List (Kept R S))
  keep e [] = []
  keep e (trial ∷ outer) = (e ∷ trial) ∷ outer

  abbrev pub put_back : Kept R S → List (Node R S) → List (Node R S)
  put_back e t = slice_set (slice_set t e.second e.second_was) e.first e.first_was

  -- the table as it was before the lines of a trial, the newest taken back first
  abbrev pub undo : List (Kept R S) → List (Node R S) → List (Node R S)
  undo [] t = t
  undo (e ∷ es) t = undo es (put_back e t)

  -- the trials left when the innermost is adopted: its lines become part of the one outside, if there is one
  abbrev pub merged : List (Kept R S) → List (List (Kept R S)) → List (List (Kept R S))
  merged trial [] = []
  merged trial (outer ∷ rest) = (trial ++ outer) ∷ rest
