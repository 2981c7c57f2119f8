-- The words of sets tell them apart, and are read back.
use Rattle.std.specs.Prelude.{◌≡◌, ℕ, ◌+◌, ◌%◌, ◌^◌, ◌<◌, ◌≤◌, Bool, true, false, cond, ◌||◌, List, length, codes, ◌==◌, ◌≢◌, nat_eq, refl}
use Rattle.std.proofs.Common.{sym, ap, ◌∙◌, arith}
use Rattle.std.proofs.lemmas.Nat.Bits.{bit_at-zero}
use Rattle.std.proofs.lemmas.Bool.{eqb-true, eqb-false, or_right, cond_both}
use Rattle.std.proofs.lemmas.Bool.Decides.{nat_tests}
use Rattle.kind.specs.Tally.{members}
use Rattle.kind.proofs.Members.{members_le}
use Rattle.words.specs.Plain.{all_plain}
use Rattle.conductors.specs.Masks.{bit, mask_full}
use Rattle.conductors.specs.OrderWords.{digits, stands, mask_label, mask_read}
use Rattle.conductors.specs.Digits.{stands_other, stands_digit, digits_alike, digits_long, digits_plain}
use Rattle.conductors.specs.Stands.{or_none}
use Rattle.conductors.specs.MaskLaws.{bit_mod, bit_mask, mask_alike, mask_bits, full_mask, mask_none}

-- whether a text, read as a set, has v
abbrev read : ℕ → List ℕ → Bool
read v field = stands (49 + v) field || stands 97 field

-- what holds of `any` for a full set, of `none` for an empty one, and of the digits for any other, holds of the word
by_word : (P : List ℕ → Type 0) (n s : ℕ) → (s % 2 ^ n ≡ mask_full n → P (codes "any")) → (s % 2 ^ n ≡ 0 → P (codes "none")) → ((s % 2 ^ n ≢ 0) → P (digits (bit s) n)) → P (mask_label n s)
by_word P n s full none other =
    cond_both (s % 2 ^ n == mask_full n) _ _ P (λ e. full (eqb-true _ _ e))
    (λ f. cond_both (s % 2 ^ n == 0) _ _ P (λ e. none (eqb-true _ _ e)) (λ e. other (eqb-false _ _ e)))

no_digit : (v : ℕ) → v < 4 → read v (codes "none") ≡ false
no_digit v h = grind (arith, nat_tests)

all_digits : (v : ℕ) → read v (codes "any") ≡ true
all_digits v = or_right (stands (49 + v) (codes "any")) true refl

read_label : (n s v : ℕ) → n ≤ 4 → v < n → read v (mask_label n s) ≡ bit s v
read_label n s v few h =
    by_word (λ w. read v w ≡ bit s v) n s
    (λ e. all_digits v ∙ sym (sym (bit_mod n s v h) ∙ ap (λ t. bit t v) (e ∙ full_mask n) ∙ bit_mask (λ u. true) n v h))
    (λ e. no_digit v (omega arith) ∙ sym (sym (bit_mod n s v h) ∙ ap (λ t. bit t v) e ∙ ap (λ x. nat_eq x 1) (bit_at-zero v)))
    (λ e. (λ i. stands_digit (bit s) n v h i || stands_other (bit s) n 97 (λ u (l : u < n) (z : 97 ≡ 49 + u). omega arith) i) ∙ or_none (bit s v))

pub label_tells : (n s t : ℕ) → n ≤ 4 → mask_label n s ≡ mask_label n t → (v : ℕ) → v < n → bit s v ≡ bit t v
label_tells n s t few e v h = sym (read_label n s v few h) ∙ ap (read v) e ∙ read_label n t v few h

pub label_told : (n s t : ℕ) → ((v : ℕ) → v < n → bit s v ≡ bit t v) → mask_label n s ≡ mask_label n t
label_told n s t e =
    let low : s % 2 ^ n ≡ t % 2 ^ n = sym (mask_bits s n) ∙ mask_alike (bit s) (bit t) n e ∙ mask_bits t n in
    let told = digits_alike (bit s) (bit t) n e in
    λ i. cond (low i == mask_full n) (codes "any") (cond (low i == 0) (codes "none") (told i))

pub label_read : (n s : ℕ) → n ≤ 4 → mask_label n (mask_read n (mask_label n s)) ≡ mask_label n s
label_read n s few = label_told n _ s (λ v h. bit_mask (λ u. read u (mask_label n s)) n v h ∙ read_label n s v few h)

pub label_plain : (n s : ℕ) → n ≤ 4 → all_plain (mask_label n s) ≡ true
label_plain n s few = by_word (λ w. all_plain w ≡ true) n s (λ e. refl) (λ e. refl) (λ e. digits_plain (bit s) n few)

pub label_long : (n s : ℕ) → n ≤ 4 → (0 < length (mask_label n s)) × (length (mask_label n s) ≤ 4)
label_long n s few =
    by_word (λ w. (0 < length w) × (length w ≤ 4)) n s (λ e. (omega arith, omega arith)) (λ e. (omega arith, omega arith))
    (λ e.
    let long : length (digits (bit s) n) ≡ members (bit s) n = digits_long (bit s) n in
    let some : length (digits (bit s) n) ≡ 0 → ⊥ = λ z. e (sym (mask_bits s n) ∙ mask_none (bit s) n (sym long ∙ z)) in
    let low : members (bit s) n ≤ n = members_le (bit s) n in
    (omega arith, omega arith))
