-- What is written is read back: the text of some lines is read as lines that the same assignments obey.
use Rattle.std.proofs.Common.{◌≡◌, ℕ, ◌<◌, ◌≤◌, true, false, ◌↔◌, List, [], ◌∷◌, ◌++◌, is_some, Some, None, codes, decimal, Option, sym, refl, ap, ◌∙◌, append_assoc, arith}
use Rattle.std.specs.List.{AllByRecursion}
use Rattle.std.proofs.ByRecursion.{All-append}
use Rattle.std.proofs.lemmas.Bool.{both_ways, cond-true, lt-ltb}
use Rattle.words.specs.Parts.{parts}
use Rattle.words.proofs.Cuts.{Lacks, parts_before, parts_whole, plain_lacks}
use Rattle.words.proofs.Numerals.{decimal_named}
use Rattle.words.proofs.Reading.{unread}
use Rattle.words.proofs.Spelling.{plain_decimal}
use Rattle.kind.specs.declared.Kind.{Ghosts}
use Rattle.kind.proofs.Lawful.{Lawful, Worded}
use Rattle.lines.specs.Point.{if_point, point_of}
use Rattle.rules.specs.Lines.{Line, note, see}
use Rattle.rules.specs.Listing.{line_text, text_of}
use Rattle.rules.specs.Reading.{bind, fields_read, line_read, lines_read, text_read}
use Rattle.rules.specs.Standing.{On, Assigns, Obeys, ObeysAll}

-- what there is
the_some : {X : Type 0} (o : Option X) → is_some o ≡ true → (x : X) × (o ≡ Some x)
the_some None e = absurd (both_ways false refl e)
the_some (Some x) e = (x, refl)

point_read : (x : ℕ) → x < 256 → point_of (decimal x) ≡ Some x
point_read x low = ap if_point (decimal_named x (omega arith)) ∙ cond-true _ _ _ (lt-ltb x 256 low)

decimal_lacks : (x : ℕ) → x < 256 → Lacks 9 (decimal x) × Lacks 10 (decimal x)
decimal_lacks x low = plain_lacks (decimal x) (plain_decimal x (omega arith))

-- pieces with a tab between them lack a line feed if they do
tabbed : (p q : List ℕ) → Lacks 10 p → Lacks 10 q → Lacks 10 (p ++ (9 ∷ q))
tabbed p q h i = All-append _ p (9 ∷ q) h (λ e. omega arith, i)

module _ {K R S : Type 0} (k : Ghosts K R S) (laws : Lawful k) (worded : Worded k) where
  -- a line in bytes, without the line feed at its end
  abbrev unended : Line R S → List ℕ
  unended (note x y g) = codes "note" ++ (9 ∷ decimal x ++ (9 ∷ decimal y ++ (9 ∷ k.word g)))
  unended (see x s) = codes "see" ++ (9 ∷ decimal x ++ (9 ∷ k.label s))

  ended : (l : Line R S) (rest : List ℕ) → line_text k l ++ rest ≡ unended l ++ (10 ∷ rest)
  ended (note x y g) rest = simp append_assoc
  ended (see x s) rest = simp append_assoc

  unended_lacks : (l : Line R S) → On 256 l → Lacks 10 (unended l)
  unended_lacks (note x y g) on =
      tabbed (codes "note") _ (plain_lacks (codes "note") refl).1
      (tabbed (decimal x) _ (decimal_lacks x on.0).1
      (tabbed (decimal y) _ (decimal_lacks y on.1).1 (plain_lacks (k.word g) (worded.word_plain g)).1))
  unended_lacks (see x s) on =
      tabbed (codes "see") _ (plain_lacks (codes "see") refl).1
      (tabbed (decimal x) _ (decimal_lacks x on.0).1 (plain_lacks (k.label s) (worded.label_plain s)).1)

  note_parts : (x y : ℕ) (g : R) → x < 256 → y < 256
      → parts 9 (unended (note x y g)) ≡ codes "note" ∷ (decimal x ∷ (decimal y ∷ (k.word g ∷ [])))
  note_parts x y g p q =
      ap (λ ps. codes "note" ∷ ps) (parts_before 9 (decimal x) _ (decimal_lacks x p).0
      ∙ ap (λ ps. decimal x ∷ ps) (parts_before 9 (decimal y) _ (decimal_lacks y q).0
      ∙ ap (λ ps. decimal y ∷ ps) (parts_whole 9 (k.word g) (plain_lacks (k.word g) (worded.word_plain g)).0)))

  see_parts : (x : ℕ) (s : S) → x < 256 → parts 9 (unended (see x s)) ≡ codes "see" ∷ (decimal x ∷ (k.label s ∷ []))
  see_parts x s p =
      ap (λ ps. codes "see" ∷ ps) (parts_before 9 (decimal x) _ (decimal_lacks x p).0
      ∙ ap (λ ps. decimal x ∷ ps) (parts_whole 9 (k.label s) (plain_lacks (k.label s) (worded.label_plain s)).0))

  -- a line is read as one that the same assignments obey
  line_means : (n : ℕ) → n ≤ 256 → (l : Line R S) → On n l
      → (m : Line R S) × (line_read k (unended l) ≡ Some m) × ((a : ℕ → ℕ) → Assigns k n a → Obeys k a m ↔ Obeys k a l)
  line_means n few (note x y g) on =
      let read = the_some (k.named (k.word g)) (worded.word_named g) in
      let h = read.0 in
      let same = laws.word_tells h g (worded.named_word (k.word g) h read.1) in
      let p : x < 256 = omega (arith, on.0) in
      let q : y < 256 = omega (arith, on.1) in (
        note x y h,
        ap (fields_read k) (note_parts x y g p q)
            ∙ (λ i. bind (point_read x p i) (λ a. bind (point_read y q i) (λ b. bind (read.1 i) (λ r. Some (note a b r))))),
        λ a low. (λ o. o ∙ same (a y) (low y on.1), λ o. o ∙ sym (same (a y) (low y on.1))),
      )
  line_means n few (see x s) on =
      let read = the_some (k.labelled (k.label s)) (worded.label_labelled s) in
      let q = read.0 in
      let same = laws.label_tells q s (worded.labelled_label (k.label s) q read.1) in
      let p : x < 256 = omega (arith, on.0) in (
        see x q,
        ap (fields_read k) (see_parts x s p) ∙ (λ i. bind (point_read x p i) (λ a. bind (read.1 i) (λ t. Some (see a t)))),
        λ a low. (λ o. sym (same (a x) (low x on.0)) ∙ o, λ o. same (a x) (low x on.0) ∙ o),
      )

  lines_more : (line : List ℕ) (ps : List (List ℕ)) (l : Line R S) (ls : List (Line R S)) → line_read k line ≡ Some l → lines_read k ps ≡ Some ls
      → lines_read k (line ∷ ps) ≡ Some (l ∷ ls)
  lines_more line [] l ls p q = unread q
  lines_more line (next ∷ rest) l ls p q = λ i. bind (p i) (λ m. bind (q i) (λ ms. Some (m ∷ ms)))

  pub text_means : (n : ℕ) → n ≤ 256 → (ls : List (Line R S)) → AllByRecursion (On n) ls
      → (ms : List (Line R S)) × (text_read k (text_of k ls) ≡ Some ms) × ((a : ℕ → ℕ) → Assigns k n a → ObeysAll k a ms ↔ ObeysAll k a ls)
  text_means n few [] on = ([], refl, λ a low. (λ o. o, λ o. o))
  text_means n few (l ∷ ls) on =
      let here = line_means n few l on.0 in
      let rest = text_means n few ls on.1 in
      let points : On 256 l = (omega (arith, on.0.0), omega (arith, on.0.1)) in (
        here.0 ∷ rest.0,
        ap (text_read k) (ended l (text_of k ls)) ∙ ap (lines_read k) (parts_before 10 (unended l) (text_of k ls) (unended_lacks l points))
            ∙ lines_more (unended l) (parts 10 (text_of k ls)) here.0 rest.0 here.1 rest.1,
        λ a low.
            let one = here.2 a low in
            let more = rest.2 a low in
            (λ o. (one.0 o.0, more.0 o.1), λ o. (one.1 o.0, more.1 o.1)),
      )
