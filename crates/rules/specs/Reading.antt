-- How the bytes of a listing are read: by verb, fields and the kind's own words.
use Rattle.std.specs.Prelude.{ℕ, cond, List, [], ◌∷◌, Some, None, codes, Option}
use Rattle.std.specs.Str.{bytes_eq}
use Rattle.words.specs.Parts.{parts}
use Rattle.kind.specs.declared.Kind.{Ghosts}
use Rattle.lines.specs.Point.{point_of}
use Rattle.rules.specs.Lines.{Line, note, see}

-- what is made of a value, if there is one
abbrev pub bind : {X Y : Type 0} → Option X → (X → Option Y) → Option Y
bind None f = None
bind (Some x) f = f x

module _ {K R S : Type 0} (k : Ghosts K R S) where
  -- a verb and its fields: `see`, a point and a set, or `note`, two points and a relation
  abbrev pub fields_read : List (List ℕ) → Option (Line R S)
  fields_read [] = None
  fields_read (verb ∷ []) = None
  fields_read (verb ∷ x ∷ []) = None
  fields_read (verb ∷ x ∷ s ∷ []) = cond (bytes_eq verb (codes "see")) (bind (point_of x) (λ a. bind (k.labelled s) (λ t. Some (see a t)))) None
  fields_read (verb ∷ x ∷ y ∷ g ∷ []) =
      cond (bytes_eq verb (codes "note")) (bind (point_of x) (λ a. bind (point_of y) (λ b. bind (k.named g) (λ h. Some (note a b h))))) None
  fields_read (verb ∷ x ∷ y ∷ g ∷ more ∷ fields) = None

  -- a line is parted into fields by tabs
  abbrev pub line_read : List ℕ → Option (Line R S)
  line_read line = fields_read (parts 9 line)

  -- the parts of a text between line feeds: nothing may follow the last line feed
  abbrev pub lines_read : List (List ℕ) → Option (List (Line R S))
  lines_read [] = None
  lines_read ([] ∷ []) = Some []
  lines_read ((b ∷ bs) ∷ []) = None
  lines_read (line ∷ next ∷ rest) = bind (line_read line) (λ l. bind (lines_read (next ∷ rest)) (λ ls. Some (l ∷ ls)))

  abbrev pub text_read : List ℕ → Option (List (Line R S))
  text_read text = lines_read (parts 10 text)
