-- The words of drums, and what they are read as.
use Rattle.std.specs.Prelude.{◌≡◌, ℕ, ◌<◌, ◌≤◌, Bool, true, false, cond, List, [], ◌∷◌, ◌++◌, length, take, is_some, Some, None, decimal, Option, nat_le, refl}
use Rattle.std.proofs.Common.{ap, sym, ◌∙◌, append-nil, append_assoc, arith, lit<, lit≤, length-append, take_all}
use Rattle.std.proofs.lemmas.Fmt.{decimal_nonempty, length-decimal-le, digits_decimal}
use Rattle.std.proofs.lemmas.Bool.{and_parts, and_from, leb-true, le-leb, cond-true}
use Rattle.words.specs.Numbers.{number_named}
use Rattle.words.specs.Parts.{parts}
use Rattle.words.specs.Plain.{all_plain}
use Rattle.words.proofs.Numerals.{own, named_number, decimal_named}
use Rattle.words.proofs.Reading.{unread}
use Rattle.words.proofs.Spelling.{plain_append, plain_decimal, front_decimal}
use Rattle.picks.proofs.PickWords.{Spelling}
use Rattle.drums.specs.Drums.{InRange, drum_mult, drum_add, drum_number, moved_to, drum_act}
use Rattle.drums.specs.DrumWords.{with_bar, drum_word, both_named, two_named, drum_named, low_number, value_named}
use Rattle.drums.specs.Bars.{one_part, first_part, with_bar_all, parts_whole}
use Rattle.drums.specs.DrumLaws.{mult_some, mult_low, add_low, number_parts}

-- what a test lets through
let_through : (t : Bool) (n g : ℕ) → cond t (Some n) None ≡ Some g → (t ≡ true) × (n ≡ g)
let_through true n g e = (refl, cc)
let_through false n g e = unread e

short : (n : ℕ) → n ≤ 250 → length (decimal n) ≤ 3
short n low = length-decimal-le 3 n (omega arith) (omega arith) (omega arith)

-- the values up to 250 are written and read as numbers
pub values : Spelling 251 7 decimal value_named
values = record {
  two = lit≤ tt;
  room = lit≤ tt;
  front = λ v low. front_decimal v (omega arith);
  some = λ v low. decimal_nonempty v (omega arith);
  short = λ v low. let s = short v (omega arith) in omega arith;
  plain = λ v low. plain_decimal v (omega arith);
  written = λ v low. ap low_number (decimal_named v (omega arith)) ∙ cond-true (nat_le v 250) _ _ (le-leb v 250 (omega arith));
  read = λ field v e. read field (number_named field) refl v e;
}
  where
    read : (field : List ℕ) (x : Option ℕ) → number_named field ≡ x → (v : ℕ) → low_number x ≡ Some v → (v < 251) × (decimal v ≡ field)
    read field None is v e = unread e
    read field (Some n) is v e =
        let r = let_through (nat_le n 250) n v e in
        let low = leb-true n 250 r.0 in
        (omega (arith, r.1), ap decimal (sym r.1) ∙ (named_number field n is).0)

-- the word of a|b
module _ (a b : ℕ) (low : a ≤ 250) (small : b ≤ 250) where
  with_bar_length : length (with_bar a b) ≤ 7
  with_bar_length = omega (arith, length-append (decimal a) (124 ∷ decimal b), short a low, short b small)

  -- there is room for it, as it is put together
  pub with_bar_written : take 32 (take 32 (decimal a ++ (124 ∷ [])) ++ decimal b) ≡ with_bar a b
  with_bar_written =
      let room = length-append (decimal a) (124 ∷ []) in
      ap (λ l. take 32 (l ++ decimal b)) (take_all 32 _ (omega (arith, short a low))) ∙ ap (take 32) (append_assoc (decimal a) (124 ∷ []) (decimal b))
      ∙ take_all 32 (with_bar a b) (omega (arith, with_bar_length))

  with_bar_parts : parts 124 (with_bar a b) ≡ decimal a ∷ decimal b ∷ []
  with_bar_parts =
      first_part (decimal a) (decimal b) (digits_decimal own a (omega arith)) ∙ ap (λ ps. decimal a ∷ ps) (one_part (decimal b) (digits_decimal own b (omega arith)))

  with_bar_named : 1 ≤ a → drum_named (with_bar a b) ≡ Some (drum_number a b)
  with_bar_named some =
      ap two_named with_bar_parts ∙ ap (λ x. both_named x (number_named (decimal b))) (decimal_named a (omega arith)) ∙ ap (both_named (Some a)) (decimal_named b (omega arith))
      ∙ cond-true _ _ _ (and_from _ _ (le-leb 1 a some) (and_from _ _ (le-leb a 250 low) (le-leb b 250 small)))

-- the number of a|b has the word of a|b
pub number_word : (a b : ℕ) → InRange a b → drum_word (drum_number a b) ≡ with_bar a b
number_word a b range = ap (λ parts. with_bar parts.0 parts.1) (number_parts a b range)

pub drum_length : (g : ℕ) → (0 < length (drum_word g)) × (length (drum_word g) ≤ 7)
drum_length g =
    let a = drum_mult g in
    (omega (arith, length-append (decimal a) (124 ∷ decimal (drum_add g))), with_bar_length a (drum_add g) (mult_low g) (add_low g))

drum_word_read : (g : ℕ) → drum_named (drum_word g) ≡ Some (drum_number (drum_mult g) (drum_add g))
drum_word_read g = with_bar_named (drum_mult g) (drum_add g) (mult_low g) (add_low g) (mult_some g)

pub drum_word_named : (g : ℕ) → is_some (drum_named (drum_word g)) ≡ true
drum_word_named g = ap is_some (drum_word_read g)

-- relations with one word have one number
pub drum_word_tells : (g h : ℕ) → drum_word g ≡ drum_word h → (v : ℕ) → drum_act g v ≡ drum_act h v
drum_word_tells g h e v =
    let x = drum_word_read g in
    let y = drum_word_read h in
    let same : drum_number (drum_mult g) (drum_add g) ≡ drum_number (drum_mult h) (drum_add h) = cc (ap drum_named e) in
    let b : drum_add g ≡ drum_add h = omega arith in
    let a : drum_mult g ≡ drum_mult h = omega arith in
    ap (λ x. moved_to x (drum_add g) v) a ∙ ap (λ x. moved_to (drum_mult h) x v) b

pub drum_word_told : (g h : ℕ) → ((v : ℕ) → v < 251 → drum_act g v ≡ drum_act h v) → drum_word g ≡ drum_word h
drum_word_told g h e =
    let z = e 0 (lit< tt) in
    let o = e 1 (lit< tt) in
    let b : drum_add g ≡ drum_add h = omega arith in
    let a : drum_mult g ≡ drum_mult h = omega arith in
    ap (λ x. with_bar x (drum_add g)) a ∙ ap (λ x. with_bar (drum_mult h) x) b

pub drum_plain : (g : ℕ) → all_plain (drum_word g) ≡ true
drum_plain g = plain_append (decimal (drum_mult g)) (124 ∷ decimal (drum_add g)) (plain_decimal _ (omega arith)) (plain_decimal (drum_add g) (omega arith))

pub drum_named_word : (field : List ℕ) (g : ℕ) → drum_named field ≡ Some g → drum_word g ≡ field
drum_named_word field g e = two (parts 124 field) (parts_whole field) e
  where
    both : (p q : List ℕ) (x y : Option ℕ) → number_named p ≡ x → number_named q ≡ y → both_named x y ≡ Some g → drum_word g ≡ p ++ (124 ∷ q)
    both p q None y m n e = unread e
    both p q (Some a) None m n e = unread e
    both p q (Some a) (Some b) m n e =
        let r = let_through _ (drum_number a b) g e in
        let some = and_parts _ _ r.0 in
        let low = and_parts _ _ some.1 in
        let range : InRange a b = record { some = leb-true 1 a some.0; low = leb-true a 250 low.0; small = leb-true b 250 low.1 } in
        ap drum_word (sym r.1) ∙ number_word a b range ∙ ap (λ l. l ++ (124 ∷ decimal b)) (named_number p a m).0 ∙ ap (λ l. p ++ (124 ∷ l)) (named_number q b n).0

    two : (ps : List (List ℕ)) → with_bar_all ps ≡ 124 ∷ field → two_named ps ≡ Some g → drum_word g ≡ field
    two [] w e = unread e
    two (p ∷ []) w e = unread e
    two (p ∷ q ∷ []) w e = let z = append-nil q in both p q (number_named p) (number_named q) refl refl e ∙ cc
    two (p ∷ q ∷ r ∷ rs) w e = unread e
