-- Numbers and the fields that write them.
use Rattle.std.proofs.Common.{◌≡◌, ℕ, zero, suc, ◌+◌, ◌-◌, ◌*◌, ◌^◌, ◌<◌, ◌≤◌, Bool, true, false, cond, List, length, get_or, take, Some, None, decimal, sym, refl, ap, ◌∙◌, subst, ⊎_elim, arith, length-take, Result, Ok, Err}
use Rattle.std.proofs.lemmas.Fmt.{decimal_digit, decimal_nonempty, length-decimal-le, first_decimal, digits_decimal, digits_value-decimal, decimal-digits_value, decimal_injective}
use Rattle.std.proofs.lemmas.Int.Digits.{digits_more, digits_value_more}
use Rattle.std.proofs.lemmas.Slice.Eq.{bytes_eq-Decides}
use Rattle.std.proofs.lemmas.List.{take_all}
use Rattle.std.proofs.lemmas.Str.Parse.{IsNumeralModel, numerals_by_value, tells_digits, digits_value_short}
use Rattle.std.proofs.lemmas.Bool.{cases_Bool, cases_eq, cond-true, cond-false}
use Rattle.std.proofs.lemmas.Str.{digit_value_digit}
use Rattle.std.specs.List.{range_with_len}
use Rattle.std.specs.Str.Parse.{AllDigits, digits_value}
use Rattle.std.specs.Int.{IsInRange}
use Rattle.std.specs.Char.{digit_value}
use Rattle.std.specs.Str.{bytes_eq}
use Rattle.std.specs.Result.{OkIff, result_ok}
use Rattle.words.proofs.Reading.{unread, first_with_word}
use Rattle.words.specs.Numbers.{below, number_named}
use Rattle.words.specs.Reading.{first_with}

pub own : IsNumeralModel (AllDigits 10) (digits_value 10)
own = numerals_by_value (AllDigits 10) tells_digits

unlike : (a b : List ℕ) → (a ≡ b → ⊥) → bytes_eq a b ≡ false
unlike a b h = ⊎_elim (λ e. absurd (h ((bytes_eq-Decides a b).0 e))) (λ e. e) (cases_Bool (bytes_eq a b))

-- how a number n below 2 ^ 32 is written
pub record Numeral (field : List ℕ) (n : ℕ) : Type 0 where
  pub some : 0 < length field
  pub short : length field ≤ 10
  pub plain : get_or field 0 0 ≡ 48 → length field ≡ 1
  pub digits : AllDigits 10 field
  pub counts : n ≡ digits_value 10 field

numeral_decimal : (n : ℕ) → n < 4294967296 → Numeral (decimal n) n
numeral_decimal n h =
    let wide : n < 2 ^ 64 = omega arith in
    record {
      some = decimal_nonempty n wide;
      short = length-decimal-le 10 n (omega arith) (omega arith) wide;
      plain = λ e. ⊎_elim (λ z. ap (λ k. length (decimal k)) z ∙ ap length (decimal_digit 0 (omega arith)))
          (λ z. absurd (omega (arith, first_decimal n (omega arith) wide))) (cases_eq n 0);
      digits = digits_decimal own n wide;
      counts = sym (digits_value-decimal own n wide);
    }

module _ (field : List ℕ) where
  -- the first i bytes are digits, and write n
  pub record Read (i n : ℕ) : Type 0 where
    pub digits : AllDigits 10 (take i field)
    pub counts : n ≡ digits_value 10 (take i field)

  pub read_more : (i n : ℕ) → Read i n → i < length field → IsInRange 48 57 (get_or field i 0) → Read (i + 1) (n * 10 + (get_or field i 0 - 48))
  read_more i n r h d =
      let digit : digit_value (get_or field i 0) + 48 ≡ get_or field i 0 = digit_value_digit (get_or field i 0) d in
      record {
        digits = digits_more 10 field i h r.digits (omega (arith, d.0, d.1));
        counts = omega (arith, r.counts, digit, d.0, digits_value_more 10 field i h);
      }

  pub read_few : (i n : ℕ) → Read i n → i < 10 → n < 1000000000
  read_few i n r h = omega (arith, r.counts, digits_value_short own (take i field) 9 r.digits (simp length-take (omega arith)))

  pub read_all : (i n : ℕ) → Read i n → length field ≤ i → 0 < length field → length field ≤ 10 → (get_or field 0 0 ≡ 48 → length field ≡ 1) → Numeral field n
  read_all i n r all some short plain =
      let whole = take_all i field all in
      record {
        some = some;
        short = short;
        plain = plain;
        digits = subst (λ f. AllDigits 10 f) whole r.digits;
        counts = r.counts ∙ ap (digits_value 10) whole;
      }

  absent : (k n : ℕ) → ((m : ℕ) → m < k + n → decimal m ≡ field → ⊥) → first_with decimal (range_with_len k n) field ≡ None
  absent k zero h = refl
  absent k (suc n) h =
      cond-false _ _ _ (unlike field (decimal k) (λ e. h k (omega arith) (sym e))) ∙ absent (k + 1) n (λ m lt. h m (omega arith))

  found : (k n m : ℕ) → k ≤ m → m < k + n → m < 2 ^ 64 → decimal m ≡ field → first_with decimal (range_with_len k n) field ≡ Some m
  found k zero m from to h e = absurd (omega arith)
  found k (suc n) m from to h e =
      ⊎_elim (λ is. cond-true _ _ _ ((bytes_eq-Decides field (decimal k)).1 (sym e ∙ ap decimal (sym is))) ∙ ap Some is)
      (λ other.
      cond-false _ _ _ (unlike field (decimal k) (λ w. other (decimal_injective k m (omega arith) (omega arith) (sym w ∙ sym e))))
      ∙ found (k + 1) n m (omega arith) (omega arith) h e) (cases_eq k m)

  among : (k n m : ℕ) → first_with decimal (range_with_len k n) field ≡ Some m → m < k + n
  among k zero m e = unread e
  among k (suc n) m e = chosen (bytes_eq field (decimal k)) e (among (k + 1) n m)
    where
      chosen : (b : Bool) → cond b (Some k) (first_with decimal (range_with_len (k + 1) n) field) ≡ Some m → (first_with decimal (range_with_len (k + 1) n) field ≡ Some m → m < k + 1 + n) → m < k + suc n
      chosen true here rest = let is : k ≡ m = cc in omega arith
      chosen false here rest = omega (arith, rest here)

  absent_below : (n : ℕ) → ((m : ℕ) → m < n → decimal m ≡ field → ⊥) → first_with decimal (below n) field ≡ None
  unfolding below
  absent_below n h = absent 0 n (λ m lt. h m (omega arith))

  found_below : (n m : ℕ) → m < n → m < 2 ^ 64 → decimal m ≡ field → first_with decimal (below n) field ≡ Some m
  unfolding below
  found_below n m lt h e = found 0 n m (omega arith) (omega arith) h e

  among_below : (n m : ℕ) → first_with decimal (below n) field ≡ Some m → m < n
  unfolding below
  among_below n m e = omega (arith, among 0 n m e)

  -- a field that is no numeral names no number
  pub refused : ((n : ℕ) → n < 4294967296 → Numeral field n → ⊥) → None ≡ number_named field
  unfolding number_named
  refused h = sym (absent_below 4294967296 (λ n lt e. h n lt (subst (λ f. Numeral f n) e (numeral_decimal n lt))))

  -- nor does a numeral that is too large
  pub too_large : (n : ℕ) → Numeral field n → 4294967296 ≤ n → None ≡ number_named field
  too_large n m ge = refused (λ k lt w. omega (arith, m.counts, w.counts))

  pub accepted : (n : ℕ) → Numeral field n → n < 4294967296 → Some n ≡ number_named field
  unfolding number_named
  accepted n m lt =
      let short : digits_value 10 field < 10 ^ 10 = digits_value_short own field 10 m.digits m.short in
      let written : decimal (digits_value 10 field) ≡ field = decimal-digits_value own field m.digits m.some m.plain (omega arith) in
      sym (found_below 4294967296 n lt (omega arith) (ap decimal m.counts ∙ written))

  -- which number a numeral names, if it is small enough
  pub judged : {E : Type 0} (r : Result ℕ E) (n : ℕ) → Numeral field n → OkIff r (n < 4294967296) n → result_ok r ≡ number_named field
  judged (Ok v) n m small = ap Some small.1 ∙ accepted n m small.0
  judged (Err e) n m small = too_large n m (omega (arith, small))

  -- what a named number is
  pub named_number : (n : ℕ) → number_named field ≡ Some n → (decimal n ≡ field) × (n < 4294967296)
  unfolding number_named
  named_number n e = (first_with_word decimal (below 4294967296) field n e, among_below 4294967296 n e)

pub decimal_named : (n : ℕ) → n < 4294967296 → number_named (decimal n) ≡ Some n
unfolding number_named
decimal_named n lt = found_below (decimal n) 4294967296 n lt (omega arith) refl
