-- Numbers as they are written: the bytes that they have, and how they are written from the last digit.
use Rattle.std.proofs.Common.{◌≡◌, ℕ, suc, ◌+◌, ◌-◌, ◌/◌, ◌%◌, ◌^◌, ◌<◌, ◌≤◌, true, false, List, [], ◌∷◌, ◌++◌, length, get_or, take, drop, set, replicate, ℤ, pos, negsuc, nat_abs, decimal, sym, refl, ap, ◌∙◌, append_assoc, append-nil, arith, length-append, length-drop, length-set, rules}
use lib.Signed.{le_z}
use Rattle.std.proofs.lemmas.Fmt.{decimal_nonempty, decimal_digit, decimal_step, length-decimal-le, digits_decimal}
use Rattle.std.proofs.lemmas.List.{drop-set, take_all}
use Rattle.std.proofs.lemmas.Str.Parse.{digit_from_value, digit_at}
use Rattle.std.proofs.lemmas.Bool.{and_parts, and_from}
use Rattle.std.proofs.lemmas.Bool.Decides.{nat_tests}
use Rattle.std.specs.Str.Parse.{AllDigits}
use Rattle.std.specs.Fmt.{signed_decimal}
use Rattle.words.proofs.Numerals.{own}
use Rattle.words.specs.Plain.{all_plain}

-- what is left to write of n is front, before place at
pub record Left (n : ℕ) (digits : List ℕ) (at front : ℕ) : Type 0 where
  pub size : length digits ≡ 10
  pub low : at < 10
  pub room : length (decimal front) ≤ at + 1
  pub fits : front < 2 ^ 32
  pub so_far : decimal n ≡ decimal front ++ drop (at + 1) digits

pub left_all : (n : ℕ) → n < 2 ^ 32 → Left n (replicate 10 0) 9 n
left_all n h = record {
  size = refl;
  low = omega arith;
  room = length-decimal-le 10 n (omega arith) (omega arith) (omega arith);
  fits = h;
  so_far = sym (append-nil (decimal n));
}

module _ (n : ℕ) (digits : List ℕ) (at front : ℕ) (l : Left n digits at front) where
  length_step : 10 ≤ front → length (decimal front) ≡ length (decimal (front / 10)) + 1
  length_step h = ap length (decimal_step front h (omega (arith, l.fits))) ∙ length-append (decimal (front / 10)) _

  pub left_room : 10 ≤ front → 1 ≤ at
  left_room h = omega (arith, l.room, length_step h, decimal_nonempty (front / 10) (omega (arith, l.fits)))

  pub left_less : 10 ≤ front → Left n (set digits at (48 + front % 10)) (at - 1) (front / 10)
  left_less h =
      let here : at - 1 + 1 ≡ at = omega (arith, left_room h) in
      record {
        size = length-set digits at _ ∙ l.size;
        low = omega (arith, l.low);
        room = omega (arith, l.room, length_step h, left_room h);
        fits = omega (arith, l.fits);
        so_far = l.so_far ∙ ap (λ ds. ds ++ drop (at + 1) digits) (decimal_step front h (omega (arith, l.fits)))
            ∙ append_assoc (decimal (front / 10)) _ _
            ∙ ap (λ ds. decimal (front / 10) ++ ds) (sym (drop-set digits at (48 + front % 10) (omega (arith, l.low, l.size))))
            ∙ ap (λ i. decimal (front / 10) ++ drop i (set digits at (48 + front % 10))) (sym here);
      }

  pub left_none : front < 10 → take 32 (take (10 - at) (drop at (set digits at (48 + front)))) ≡ decimal n
  left_none h =
      let end = drop at (set digits at (48 + front)) in
      let size : length end ≡ 10 - at = simp (length-drop, length-set) (omega (arith, l.size)) in
      let written : decimal n ≡ end =
      l.so_far ∙ ap (λ ds. ds ++ drop (at + 1) digits) (decimal_digit front h) ∙ sym (drop-set digits at (48 + front) (omega (arith, l.low, l.size))) in
      ap (take 32) (take_all (10 - at) end (omega arith)) ∙ take_all 32 end (omega arith) ∙ sym written

-- a number below zero is its minus sign and its digits
pub minus_first : (z : ℤ) (sign digits : List ℕ) → le_z (pos 0) z ≡ false → nat_abs z < 2 ^ 32 → sign ≡ 45 ∷ [] → digits ≡ decimal (nat_abs z) → take 32 (sign ++ digits) ≡ signed_decimal z
minus_first (pos n) sign digits h low s d = search rules
minus_first (negsuc n) sign digits h low s d =
    ap (take 32) (ap (λ l. l ++ digits) s ∙ ap (λ l. 45 ∷ l) d)
    ∙ take_all 32 (45 ∷ decimal (suc n)) (omega (arith, length-decimal-le 10 (suc n) (omega arith) (omega arith) (omega arith)))

pub plain_append : (xs ys : List ℕ) → all_plain xs ≡ true → all_plain ys ≡ true → all_plain (xs ++ ys) ≡ true
plain_append [] ys p q = q
plain_append (x ∷ xs) ys p q = let both = and_parts _ _ p in and_from _ _ both.0 (plain_append xs ys both.1 q)

plain_digits : (ds : List ℕ) → AllDigits 10 ds → all_plain ds ≡ true
plain_digits [] h = refl
plain_digits (d ∷ ds) h =
    let i = digit_from_value d h.0 in
    let r = plain_digits ds h.1 in
    grind (arith, nat_tests)

pub plain_decimal : (n : ℕ) → n < 2 ^ 64 → all_plain (decimal n) ≡ true
plain_decimal n lt = plain_digits _ (digits_decimal own n lt)

pub front_decimal : (n : ℕ) → n < 2 ^ 64 → get_or (decimal n) 0 0 < 58
front_decimal n lt = let i = digit_at (decimal n) 0 (digits_decimal own n lt) (decimal_nonempty n lt) in omega arith
