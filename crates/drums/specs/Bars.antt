-- Texts with a bar between two parts.
use Rattle.std.specs.Prelude.{◌≡◌, ℕ, Bool, true, false, cond, List, [], ◌∷◌, ◌++◌, None, ◌==◌, refl}
use Rattle.std.proofs.Common.{ap, ◌∙◌, arith}
use Rattle.std.specs.Str.Parse.{AllDigits}
use Rattle.std.proofs.lemmas.Str.Parse.{digit_from_value}
use Rattle.std.proofs.lemmas.Bool.{cond-false, ne_eqb, eqb-true}
use Rattle.words.specs.Parts.{onto, parts}
use Rattle.drums.specs.DrumWords.{two_named}

-- a digit is not a bar
goes_on : (x : ℕ) (xs s : List ℕ) → AllDigits 10 (x ∷ xs) → parts 124 (x ∷ s) ≡ onto x (parts 124 s)
goes_on x xs s h = let i = digit_from_value x h.0 in cond-false (x == 124) _ _ (ne_eqb x 124 (λ e. omega arith))

pub one_part : (xs : List ℕ) → AllDigits 10 xs → parts 124 xs ≡ xs ∷ []
one_part [] h = refl
one_part (x ∷ xs) h = goes_on x xs xs h ∙ ap (onto x) (one_part xs h.1)

pub first_part : (xs ys : List ℕ) → AllDigits 10 xs → parts 124 (xs ++ (124 ∷ ys)) ≡ xs ∷ parts 124 ys
first_part [] ys h = refl
first_part (x ∷ xs) ys h = goes_on x xs (xs ++ (124 ∷ ys)) h ∙ ap (onto x) (first_part xs ys h.1)

-- each part after a bar
abbrev pub with_bar_all : List (List ℕ) → List ℕ
with_bar_all [] = []
with_bar_all (p ∷ ps) = 124 ∷ (p ++ with_bar_all ps)

-- the parts make up the text
pub parts_whole : (s : List ℕ) → with_bar_all (parts 124 s) ≡ 124 ∷ s
parts_whole [] = refl
parts_whole (b ∷ bs) = begun (b == 124) refl (parts 124 bs) (parts_whole bs)
  where
    begun : (t : Bool) → (b == 124) ≡ t → (ps : List (List ℕ)) → with_bar_all ps ≡ 124 ∷ bs → with_bar_all (cond t ([] ∷ ps) (onto b ps)) ≡ 124 ∷ b ∷ bs
    begun true is ps e = let bar = eqb-true b 124 is in cc
    begun false is [] e = let z : ◌≡◌ {A = ℕ} 0 1 = cc in absurd (omega arith)
    begun false is (p ∷ ps) e = cc

-- three parts are no relation
pub too_many : (p q s : List ℕ) → two_named (p ∷ q ∷ parts 124 s) ≡ None
too_many p q s = none (parts 124 s) (parts_whole s)
  where
    none : (ps : List (List ℕ)) → with_bar_all ps ≡ 124 ∷ s → two_named (p ∷ q ∷ ps) ≡ None
    none [] e = let z : ◌≡◌ {A = ℕ} 0 1 = cc in absurd (omega arith)
    none (r ∷ rs) e = refl
