-- Lines that are entered on a sheet, and what they make of its table.
use Rattle.std.specs.Prelude.{ℕ, List, [], ◌∷◌, Some, None, Option}
use Rattle.kind.specs.declared.Kind.{Ghosts}
use Rattle.table.specs.declared.node.Node.{Node}
use Rattle.table.specs.Table.{fresh_from}
use Rattle.table.specs.Note.{noted}
use Rattle.table.specs.See.{seen}

-- a note x, y, g says that the value of x is g applied to the value of y; a sighting x, s that the value of x belongs to s
pub data Line (R S : Type 0) : Type 0 where
  note : ℕ → ℕ → R → Line R S
  see : ℕ → S → Line R S

module _ {R S : Type 0} where
  abbrev pub first_of : Line R S → ℕ
  first_of (note x y g) = x
  first_of (see x s) = x

  abbrev pub second_of : Line R S → ℕ
  second_of (note x y g) = y
  second_of (see x s) = x

  -- the table that is left, where a line that is refused leaves it as it was
  abbrev pub or_else : List (Node R S) → Option (List (Node R S)) → List (Node R S)
  or_else t None = t
  or_else t (Some u) = u

module _ {K R S : Type 0} (k : Ghosts K R S) where
  -- the table with the line, or nothing where the line is contrary
  abbrev pub entered : List (Node R S) → Line R S → Option (List (Node R S))
  entered t (note x y g) = noted k t x y g
  entered t (see x s) = seen k t x s

  abbrev pub entered_all : List (Node R S) → List (Line R S) → List (Node R S)
  entered_all t [] = t
  entered_all t (l ∷ ls) = entered_all (or_else t (entered t l)) ls

  -- the table of a new sheet of n points after some lines, one after another
  abbrev pub table_of : ℕ → List (Line R S) → List (Node R S)
  table_of n ls = entered_all (fresh_from k 0 n) ls
