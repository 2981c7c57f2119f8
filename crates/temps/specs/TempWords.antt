-- The words of temperatures.
use Rattle.std.specs.Prelude.{◌≡◌, ℕ, ◌-◌, ◌^◌, ◌<◌, ◌≤◌, true, false, ◌&&◌, List, [], ◌∷◌, length, drop, Some, None, decimal, Option, ◌==◌, nat_le, nat_lt, slice_index, slice_index_or, refl}
use Rattle.std.proofs.Common.{ap, sym, ◌∙◌, ⊎_elim, arith, lit≤}
use Rattle.std.proofs.lemmas.Fmt.{decimal_nonempty, digits_decimal, length-decimal-le}
use Rattle.std.proofs.lemmas.Str.Parse.{digit_at}
use Rattle.std.proofs.lemmas.Bool.{cases_lt, lt-ltb, le-ltb, le-leb, ltb-true, ltb-false, leb-true, eqb-true, ne_eqb, and_from, and_parts, cond-true, cond-false, cond_both}
use Rattle.words.specs.Numbers.{number_named}
use Rattle.words.specs.Plain.{all_plain}
use Rattle.words.proofs.Numerals.{own, named_number, decimal_named}
use Rattle.words.proofs.Reading.{unread}
use Rattle.words.proofs.Spelling.{plain_decimal, front_decimal}
use Rattle.picks.proofs.PickWords.{Spelling}
use Rattle.temps.specs.Temps.{temp_spelt, if_above, if_below, temp_named}

-- what holds of how each number from zero and each number below it is written holds of every number
spelt_both : (P : List ℕ → Type 0) → ((n : ℕ) → n < 2147483648 → P (decimal n)) → ((n : ℕ) → n ≤ 2147483648 → P (45 ∷ decimal n)) → (v : ℕ) → v < 4294967296 → P (temp_spelt v)
spelt_both P above below v low =
    cond_both (nat_lt v 2147483648) _ _ P (λ e. above v (ltb-true _ _ e)) (λ e. below (4294967296 - v) (omega (arith, ltb-false v 2147483648 e)))

no_minus : (n : ℕ) → n < 2 ^ 64 → (slice_index (decimal n) 0 == 45) ≡ false
no_minus n low = let d = digit_at (decimal n) 0 (digits_decimal own n low) (decimal_nonempty n low) in ne_eqb _ _ (λ (e : slice_index_or (decimal n) 0 0 ≡ 45). omega arith)

named_above : (v : ℕ) → v < 2147483648 → temp_named (temp_spelt v) ≡ Some v
named_above v low =
    ap temp_named (cond-true _ _ _ (lt-ltb v 2147483648 low)) ∙ cond-false _ _ _ (no_minus v (omega arith))
    ∙ ap if_above (decimal_named v (omega arith)) ∙ cond-true _ _ _ (lt-ltb v 2147483648 low)

named_below : (v : ℕ) → v < 4294967296 → 2147483648 ≤ v → temp_named (temp_spelt v) ≡ Some v
named_below v low high =
    let n = 4294967296 - v in
    let back : 4294967296 - n ≡ v = omega arith in
    ap temp_named (cond-false _ _ _ (le-ltb v 2147483648 high)) ∙ ap if_below (decimal_named n (omega arith))
    ∙ cond-true _ _ _ (and_from _ _ (lt-ltb 0 n (omega arith)) (le-leb n 2147483648 (omega arith))) ∙ ap Some back

-- what a field names is below the span, and has the field for its word
abbrev Reads : List ℕ → Option ℕ → Type 0
Reads field o = (v : ℕ) → o ≡ Some v → (v < 4294967296) × (temp_spelt v ≡ field)

reads_none : (field : List ℕ) → Reads field None
reads_none field v e = unread e

reads_some : (field : List ℕ) (w : ℕ) → w < 4294967296 → temp_spelt w ≡ field → Reads field (Some w)
reads_some field w low is v e = let same : w ≡ v = cc in (omega arith, ap temp_spelt (sym same) ∙ is)

reads_above : (field : List ℕ) (o : Option ℕ) → number_named field ≡ o → Reads field (if_above o)
reads_above field None is = reads_none field
reads_above field (Some n) is =
    let r = named_number field n is in
    cond_both (nat_lt n 2147483648) _ _ (Reads field) (λ e. reads_some field n r.1 (cond-true _ _ _ e ∙ r.0)) (λ _. reads_none field)

reads_below : (field digits : List ℕ) (o : Option ℕ) → field ≡ 45 ∷ digits → number_named digits ≡ o → Reads field (if_below o)
reads_below field digits None minus is = reads_none field
reads_below field digits (Some n) minus is =
    let r = named_number digits n is in
    cond_both (nat_lt 0 n && nat_le n 2147483648) _ _ (Reads field) (λ e.
    let p : 0 < n = ltb-true 0 n (and_parts (nat_lt 0 n) (nat_le n 2147483648) e).0 in
    let q : n ≤ 2147483648 = leb-true n 2147483648 (and_parts (nat_lt 0 n) (nat_le n 2147483648) e).1 in
    let back : 4294967296 - (4294967296 - n) ≡ n = omega arith in
    reads_some field (4294967296 - n) (omega arith)
    (cond-false _ _ _ (le-ltb (4294967296 - n) 2147483648 (omega arith)) ∙ ap (λ k. 45 ∷ decimal k) back ∙ ap (λ ds. 45 ∷ ds) r.0 ∙ sym minus))
    (λ _. reads_none field)

begun : (field : List ℕ) → slice_index field 0 ≡ 45 → field ≡ 45 ∷ drop 1 field
begun [] e = absurd (omega arith)
begun (b ∷ bs) e = ap (λ c. c ∷ bs) e

reads : (field : List ℕ) → Reads field (temp_named field)
reads field =
    cond_both (slice_index field 0 == 45) _ _ (Reads field) (λ e. reads_below field (drop 1 field) _ (begun field (eqb-true _ _ e)) refl)
    (λ _. reads_above field _ refl)

pub temp_spelling : Spelling 4294967296 11 temp_spelt temp_named
temp_spelling = record {
  two = lit≤ tt;
  room = lit≤ tt;
  front = spelt_both (λ w. slice_index w 0 < 58) (λ n low. front_decimal n (omega arith)) (λ n low. omega arith);
  some = spelt_both (λ w. 0 < length w) (λ n low. decimal_nonempty n (omega arith)) (λ n low. omega arith);
  short = spelt_both (λ w. length w ≤ 11) (λ n low. omega (arith, length-decimal-le 10 n (omega arith) (omega arith) (omega arith)))
      (λ n low. omega (arith, length-decimal-le 10 n (omega arith) (omega arith) (omega arith)));
  plain = spelt_both (λ w. all_plain w ≡ true) (λ n low. plain_decimal n (omega arith)) (λ n low. plain_decimal n (omega arith));
  written = λ v low. ⊎_elim (λ h. named_above v h) (λ h. named_below v low h) (cases_lt v 2147483648);
  read = reads;
}
