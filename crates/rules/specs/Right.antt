-- What a call must come to, by the history of calls: by the lines that stand and the copies that are kept.
use Rattle.std.specs.Prelude.{◌≡◌, ℕ, ◌+◌, ◌<◌, ◌⊎◌, ◌↔◌, List, [], ◌∷◌, length, Some}
use Rattle.kind.specs.declared.Kind.{Ghosts}
use Rattle.table.specs.declared.questions.Answer.TheVariants as answer
use Rattle.page.specs.Filled.{Filled, wrote, added}
use Rattle.rules.specs.Lines.{Line, note, table_of}
use Rattle.rules.specs.Listing.{listing_of}
use Rattle.rules.specs.Reading.{text_read}
use Rattle.rules.specs.Calls.{Call, enter, ask, suppose, adopt, retract, listing, Outcome, accepted, answered, handed, listed, refused}
use Rattle.rules.specs.Standing.{Standing, On, Open, Full, Follows, Contrary, SameObeyed}

-- The lowest number that applies is given, and none without its condition: the conditions stand in the order of their
-- numbers, and Q is owed where none applies.
abbrev pub Lowest : Outcome → Type 0 → List (ℕ × Type 0) → Type 0
Lowest o Q [] = Q
Lowest o Q (p ∷ ps) = (p.1 × (o ≡ refused p.0)) ⊎ ((¬ p.1) × Lowest o Q ps)

module _ {K R S : Type 0} (k : Ghosts K R S) (n : ℕ) (ls : List (Line R S)) where
  -- the answer to a question is exactly right
  pub record Told (q : Line R S) (o : Outcome) : Type 0 where
    pub held : (o ≡ answered answer.Holds) ↔ Follows k n ls q
    pub ruled_out : (o ≡ answered answer.Barred) ↔ Contrary k n ls q
    pub else_open : ¬ (Follows k n ls q) → ¬ (Contrary k n ls q) → o ≡ answered answer.Open

  -- the bytes are read as lines that the same assignments obey
  pub record Means (bytes : List ℕ) : Type 0 where
    pub lines : List (Line R S)
    pub read : text_read k bytes ≡ Some lines
    pub same : SameObeyed k n lines ls

  -- the listing of the lines, as the rules write it
  abbrev pub listed_text : List ℕ
  listed_text = listing_of k (table_of k n ls)

  -- the page p gets the listing, and what was added to it means what the lines mean
  pub record Lists (p : Filled) (o : Outcome) : Type 0 where
    pub put : o ≡ listed (wrote p listed_text)
    pub means : Means (added p (wrote p listed_text))

module _ {K R S : Type 0} (k : Ghosts K R S) (n number room : ℕ) (st : Standing R S) where
  -- what a call must come to on a sheet of n points with that number, whose trials accept `room` lines
  abbrev pub Right : Call R S → Outcome → Type 0
  Right (enter l) o =
      Lowest o (o ≡ accepted) ((5, ¬ (On n l)) ∷ ((6, Contrary k n st.lines l) ∷ ((7, Full room st) ∷ [])))
      × (On n l → (o ≡ refused 6) ↔ Contrary k n st.lines l)
  Right (ask x y g) o = Lowest o (Told k n st.lines (note x y g) o) ((5, ¬ ((x < n) × (y < n))) ∷ [])
  Right suppose o = Lowest o (o ≡ handed number) ((8, Open st) ∷ [])
  Right (adopt slip) o = Lowest o (o ≡ accepted) ((9, ¬ (slip ≡ number)) ∷ ((10, ¬ (Open st)) ∷ []))
  Right (retract slip) o = Lowest o (o ≡ accepted) ((9, ¬ (slip ≡ number)) ∷ ((10, ¬ (Open st)) ∷ []))
  Right (listing p) o =
      Lowest o (Lists k n st.lines p o) ((8, Open st) ∷ ((11, length p.bytes < p.mark + length (listed_text k n st.lines)) ∷ []))
