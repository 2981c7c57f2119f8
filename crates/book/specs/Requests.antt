-- What a line asks of its sheet: its fields read as points and as words of the kind.
use Rattle.std.specs.Prelude.{ℕ, List, Ok, Err, Result}
use Rattle.std.specs.Option.{ok_or}
use Rattle.kind.specs.declared.Kind.{Ghosts}
use Rattle.kind.specs.declared.fault.WordFault.TheVariants.{NotAWord}
use Rattle.sheet.specs.Calls as sheets
use Rattle.sheet.specs.Calls.{enter}
use Rattle.lines.specs.Point.{point_of}
use Rattle.lines.specs.Said.{Said, note, see, ask}
use Rattle.lines.specs.declared.fault.LineFault.{LineFault}
use Rattle.lines.specs.declared.fault.LineFault.TheVariants.{Point, Word}
use Rattle.lines.specs.declared.saying.Comparison.{Comparison}
use Rattle.lines.specs.declared.saying.Saying.{Saying}
use Rattle.lines.specs.declared.saying.Saying.TheVariants.{Note, See, Ask}

-- the first fault, or what comes of the value
abbrev pub bind : {X Y : Type 0} → Result X LineFault → (X → Result Y LineFault) → Result Y LineFault
bind (Ok x) f = f x
bind (Err e) f = Err e

abbrev pub point : List ℕ → Result ℕ LineFault
point field = ok_or (point_of field) Point

module _ {K R S : Type 0} (k : Ghosts K R S) where
  abbrev pub relation : List ℕ → Result R LineFault
  relation field = ok_or (k.named field) (Word NotAWord)

  abbrev pub set_of : List ℕ → Result S LineFault
  set_of field = ok_or (k.labelled field) (Word NotAWord)

  -- points before words, so that the lowest number is told
  abbrev pub comparison_of : List ℕ → List ℕ → List ℕ → Result (Comparison ℕ R) LineFault
  comparison_of x y g = bind (point x) (λ a. bind (point y) (λ b. bind (relation g) (λ h. Ok (record { x = a; y = b; relation = h }))))

  abbrev pub call_of : Said → Result (sheets.Call R S) LineFault
  call_of (note x y g) = bind (comparison_of x y g) (λ c. Ok (enter (sheets.note c.x c.y c.relation)))
  call_of (see x s) = bind (point x) (λ a. bind (set_of s) (λ t. Ok (enter (sheets.see a t))))
  call_of (ask x y g) = bind (comparison_of x y g) (λ c. Ok (sheets.ask c.x c.y c.relation))

module _ {R S : Type 0} where
  -- the code's call in the words of the rules
  abbrev pub call_meant : Saying ℕ R S → sheets.Call R S
  call_meant (Note c) = enter (sheets.note c.x c.y c.relation)
  call_meant (See x s) = enter (sheets.see x s)
  call_meant (Ask c) = sheets.ask c.x c.y c.relation

  abbrev pub meant : Result (Saying ℕ R S) LineFault → Result (sheets.Call R S) LineFault
  meant (Ok c) = Ok (call_meant c)
  meant (Err e) = Err e
