-- Parts, cut off at the first place of a byte.
use Rattle.std.proofs.Common.{◌≡◌, ℕ, zero, suc, ◌+◌, ◌<◌, ◌≤◌, true, false, List, [], ◌∷◌, ◌++◌, length, get_or, take, drop, Some, None, ◌==◌, sym, refl, ap, ◌∙◌, arith, take_all, ⊎_elim}
use Rattle.std.specs.List.{AllByRecursion, position, position_or_len}
use Rattle.std.proofs.lemmas.List.{take-append-drop}
use Rattle.std.proofs.lemmas.List.Quantifiers.{position-Some}
use Rattle.std.proofs.lemmas.List.Sums.{fails_before_first}
use Rattle.std.proofs.Math.Seq.{drop-cons}
use Rattle.std.proofs.lemmas.Bool.{eq-eqb, eqb-true, ne_eqb, eqb-false, cond-true, cond-false, and_parts, not-true, cases_lt}
use Rattle.std.proofs.lemmas.Bool.Decides.{nat_tests}
use Rattle.words.specs.Parts.{onto, parts}
use Rattle.words.specs.Plain.{all_plain}

-- the byte c is not among those bytes
abbrev pub Lacks : ℕ → List ℕ → Type 0
Lacks c p = AllByRecursion (λ b. b ≡ c → ⊥) p

pub parts_before : (c : ℕ) (p rest : List ℕ) → Lacks c p → parts c (p ++ (c ∷ rest)) ≡ p ∷ parts c rest
parts_before c [] rest h = cond-true _ _ _ (eq-eqb c c refl)
parts_before c (b ∷ p) rest h = cond-false _ _ _ (ne_eqb b c h.0) ∙ ap (onto b) (parts_before c p rest h.1)

pub parts_whole : (c : ℕ) (p : List ℕ) → Lacks c p → parts c p ≡ p ∷ []
parts_whole c [] h = refl
parts_whole c (b ∷ p) h = cond-false _ _ _ (ne_eqb b c h.0) ∙ ap (onto b) (parts_whole c p h.1)

lacks_front : (c i : ℕ) (s : List ℕ) → ((k : ℕ) → k < i → (get_or s k 0 == c) ≡ false) → Lacks c (take i s)
lacks_front c zero s h = tt
lacks_front c (suc i) [] h = tt
lacks_front c (suc i) (b ∷ s) h = (eqb-false b c (h 0 (omega arith)), lacks_front c i s (λ k lt. h (suc k) (omega arith)))

pub parts_first : (c i : ℕ) (s : List ℕ) → position (λ b. b == c) s ≡ Some i → parts c s ≡ take i s ∷ parts c (drop (i + 1) s)
parts_first c i s e =
    let first = position-Some (λ b. b == c) s i 0 e in
    let next : suc i ≡ i + 1 = omega arith in
    let there : drop i s ≡ c ∷ drop (i + 1) s = rw (← next) (drop-cons s i 0 first.0 ∙ ap (λ b. b ∷ drop (suc i) s) (eqb-true _ c first.1)) in
    ap (parts c) (sym (take-append-drop i s) ∙ ap (λ l. take i s ++ l) there)
    ∙ parts_before c (take i s) (drop (i + 1) s) (lacks_front c i s first.2)

pub parts_none : (c : ℕ) (s : List ℕ) → position (λ b. b == c) s ≡ None → parts c s ≡ s ∷ []
parts_none c s e =
    let past : length s ≤ position_or_len (λ b. b == c) s = ⊎_elim (λ lt. absurd (grind (arith, nat_tests))) (λ le. le) (cases_lt (position_or_len (λ b. b == c) s) (length s)) in
    ap (parts c) (sym (take_all (length s) s (omega arith)))
    ∙ parts_whole c (take (length s) s) (lacks_front c (length s) s (λ k lt. fails_before_first (λ b. b == c) s k 0 (omega (arith, past))))
    ∙ ap (λ p. p ∷ []) (take_all (length s) s (omega arith))

-- neither a tab nor a line feed stands in a word
pub plain_lacks : (p : List ℕ) → all_plain p ≡ true → Lacks 9 p × Lacks 10 p
plain_lacks [] h = (tt, tt)
plain_lacks (b ∷ p) h =
    let both = and_parts _ _ h in
    let here = and_parts _ _ (and_parts _ _ both.0).1 in
    let rest = plain_lacks p both.1 in
    ((eqb-false b 9 (not-true _ here.0), rest.0), (eqb-false b 10 (not-true _ here.1), rest.1))
