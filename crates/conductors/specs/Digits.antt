-- The digits of the members of a set, and which digits stand among them.
use Rattle.std.specs.Prelude.{◌≡◌, ℕ, zero, suc, ◌+◌, ◌<◌, ◌≤◌, Bool, true, false, cond, ◌&&◌, ◌||◌, [], ◌∷◌, ◌++◌, length, ◌≢◌, refl}
use Rattle.std.proofs.Common.{sym, ap, ◌∙◌, ⊎_elim, arith, length-append}
use Rattle.std.proofs.lemmas.Bool.{cases_eq, eq-eqb, ne_eqb, or_from}
use Rattle.std.proofs.lemmas.Bool.Decides.{nat_tests}
use Rattle.kind.specs.Tally.{members}
use Rattle.words.specs.Plain.{plain, all_plain}
use Rattle.words.proofs.Spelling.{plain_append}
use Rattle.conductors.specs.OrderWords.{digits, stands}
use Rattle.conductors.specs.Stands.{or_none, stands_append}

-- whether a byte stands in the last digit's part
last_other : (b d : ℕ) (p : Bool) → (b ≢ d) → stands b (cond p (d ∷ []) []) ≡ false
last_other b d true h = or_from _ _ (ne_eqb d b (λ e. h (sym e))) refl
last_other b d false h = refl

last_same : (b d : ℕ) (p : Bool) → b ≡ d → stands b (cond p (d ∷ []) []) ≡ p
last_same b d true h = ap (λ t. t || false) (eq-eqb d b (sym h))
last_same b d false h = refl

-- no other byte stands among the digits
pub stands_other : (p : ℕ → Bool) (n b : ℕ) → ((v : ℕ) → v < n → b ≢ 49 + v) → stands b (digits p n) ≡ false
unfolding digits
stands_other p zero b h = refl
stands_other p (suc n) b h =
    stands_append b (digits p n) _
    ∙ or_from _ _ (stands_other p n b (λ v (l : v < n). h v (omega arith))) (last_other b (49 + n) (p n) (h n (omega arith)))

pub stands_digit : (p : ℕ → Bool) (n v : ℕ) → v < n → stands (49 + v) (digits p n) ≡ p v
unfolding digits
stands_digit p zero v h = absurd (omega arith)
stands_digit p (suc n) v h =
    stands_append (49 + v) (digits p n) _
    ∙ ⊎_elim
    (λ (e : v ≡ n).
    (λ i. stands_other p n (49 + v) (λ u (l : u < n) (z : 49 + v ≡ 49 + u). omega arith) i || last_same (49 + v) (49 + n) (p n) (ap (λ u. 49 + u) e) i)
    ∙ ap p (sym e))
    (λ (e : v ≡ n → ⊥).
    (λ i. stands_digit p n v (omega arith) i || last_other (49 + v) (49 + n) (p n) (λ (z : 49 + v ≡ 49 + n). e (omega arith)) i) ∙ or_none (p v))
    (cases_eq v n)

pub digits_alike : (p q : ℕ → Bool) (n : ℕ) → ((v : ℕ) → v < n → p v ≡ q v) → digits p n ≡ digits q n
unfolding digits
digits_alike p q zero e = refl
digits_alike p q (suc n) e =
    let top = e n (omega arith) in
    let rest = digits_alike p q n (λ v (h : v < n). e v (omega arith)) in
    λ i. rest i ++ cond (top i) ((49 + n) ∷ []) []

pub digits_long : (p : ℕ → Bool) (n : ℕ) → length (digits p n) ≡ members p n
unfolding digits members
digits_long p zero = refl
digits_long p (suc n) =
    length-append (digits p n) _
    ∙ elim (p n) as (λ b. length (digits p n) + length (cond b ((49 + n) ∷ []) []) ≡ cond b 1 0 + members p n)
    [ true ↦ omega (arith, digits_long p n) | false ↦ omega (arith, digits_long p n) ]

pub digit_plain : (v : ℕ) → v < 4 → plain (49 + v) ≡ true
digit_plain v h = grind (arith, nat_tests)

pub digits_plain : (p : ℕ → Bool) (n : ℕ) → n ≤ 4 → all_plain (digits p n) ≡ true
unfolding digits
digits_plain p zero h = refl
digits_plain p (suc n) h =
    plain_append (digits p n) _ (digits_plain p n (omega arith))
    (elim (p n) as (λ b. all_plain (cond b ((49 + n) ∷ []) []) ≡ true) [ true ↦ last n (omega arith) | false ↦ refl ])
  where
    last : (v : ℕ) → v < 4 → all_plain ((49 + v) ∷ []) ≡ true
    last v l = ap (λ t. t && true) (digit_plain v l)
