-- Sets as bits: what belongs to a set, and how many.
use Rattle.std.specs.Prelude.{◌≡◌, ℕ, zero, suc, ◌+◌, ◌*◌, ◌/◌, ◌%◌, ◌^◌, ◌<◌, ◌≤◌, Bool, true, false, cond, ◌&&◌, ◌==◌, nat_eq, refl}
use Rattle.std.proofs.Common.{sym, ap, ◌∙◌, ⊎_elim, mod-lt, pow-suc, arith}
use Rattle.std.proofs.Math.Nat.{mod-one}
use Rattle.std.specs.Int.Bits.{bit_and}
use Rattle.std.specs.Int.Count.{ones}
use Rattle.std.proofs.lemmas.Nat.{pow_pos, mod-pow-add, div-add-mod', shr_high, and_shr, and_mod, ones_cat, ones-le}
use Rattle.std.proofs.lemmas.Nat.Bits.{bit_at_cat_low}
use Rattle.std.proofs.lemmas.Bool.Decides.{nat_tests}
use Rattle.std.proofs.lemmas.Bool.{cases_eq, eqb-true, eq-eqb, and_parts}
use Rattle.kind.specs.Tally.{members, Tallied}
use Rattle.kind.proofs.Members.{exact_tally}
use Rattle.conductors.specs.Masks.{bit, mask, mask_full, mask_inside, mask_count}

-- what stands above bit m does not matter below it
pub bit_mod : (m s v : ℕ) → v < m → bit (s % 2 ^ m) v ≡ bit s v
bit_mod m s v h =
    ap (λ x. nat_eq x 1) (sym (bit_at_cat_low (s / 2 ^ m) m (s % 2 ^ m) v h) ∙ ap (λ x. x / 2 ^ v % 2) (div-add-mod' s (2 ^ m)))

flag_test : (b : Bool) → (cond b 1 0 % 2 == 1) ≡ b
flag_test true = refl
flag_test false = refl

pub mask_below : (p : ℕ → Bool) (n : ℕ) → mask p n < 2 ^ n
unfolding mask
mask_below p zero = omega arith
mask_below p (suc n) =
    elim (p n) as (λ b. cond b 1 0 * 2 ^ n + mask p n < 2 ^ suc n)
    [ true ↦ omega (arith, mask_below p n, pow-suc 2 n) | false ↦ omega (arith, mask_below p n, pow-suc 2 n) ]

pub bit_mask : (p : ℕ → Bool) (n v : ℕ) → v < n → bit (mask p n) v ≡ p v
unfolding mask
bit_mask p zero v h = absurd (omega arith)
bit_mask p (suc n) v h =
    let c : ℕ = cond (p n) 1 0 in
    let low = mask_below p n in
    ⊎_elim
    (λ (e : v ≡ n). ap (bit (c * 2 ^ n + mask p n)) e ∙ ap (λ x. nat_eq (x % 2) 1) (shr_high c n (mask p n) low) ∙ flag_test (p n) ∙ ap p (sym e))
    (λ (e : v ≡ n → ⊥).
    let under : v < n = omega arith in
    ap (λ x. nat_eq x 1) (bit_at_cat_low c n (mask p n) v under) ∙ bit_mask p n v under)
    (cases_eq v n)

pub mask_alike : (p q : ℕ → Bool) (n : ℕ) → ((v : ℕ) → v < n → p v ≡ q v) → mask p n ≡ mask q n
unfolding mask
mask_alike p q zero e = refl
mask_alike p q (suc n) e =
    let top = e n (omega arith) in
    let rest = mask_alike p q n (λ v (h : v < n). e v (omega arith)) in
    λ i. cond (top i) 1 0 * 2 ^ n + rest i

test_flag : (x : ℕ) → x < 2 → cond (x == 1) 1 0 ≡ x
test_flag x h = grind (arith, nat_tests)

pub mask_bits : (s n : ℕ) → mask (bit s) n ≡ s % 2 ^ n
unfolding mask
mask_bits s zero = sym (mod-one s)
mask_bits s (suc n) =
    let e : 1 + n ≡ suc n = omega arith in
    (λ i. test_flag (s / 2 ^ n % 2) (mod-lt _ (omega arith)) i * 2 ^ n + mask_bits s n i)
    ∙ sym (mod-pow-add s 1 n) ∙ ap (λ k. s % 2 ^ k) e

pub full_mask : (n : ℕ) → mask_full n ≡ mask (λ v. true) n
unfolding mask
full_mask zero = refl
full_mask (suc n) = omega (arith, pow-suc 2 n, full_mask n, pow_pos n)

both_tests : (x y : ℕ) → x < 2 → y < 2 → (bit_and x y == 1) ≡ (x == 1 && y == 1)
both_tests zero zero h k = refl
both_tests zero (suc zero) h k = refl
both_tests (suc zero) zero h k = refl
both_tests (suc zero) (suc zero) h k = refl
both_tests zero (suc (suc y)) h k = absurd (omega arith)
both_tests (suc zero) (suc (suc y)) h k = absurd (omega arith)
both_tests (suc (suc x)) y h k = absurd (omega arith)

pub bit_and_lem : (s t v : ℕ) → bit (bit_and s t) v ≡ (bit s v && bit t v)
bit_and_lem s t v =
    ap (λ x. nat_eq x 1) (ap (λ x. x % 2) (and_shr s t v) ∙ and_mod (s / 2 ^ v) (t / 2 ^ v) 1)
    ∙ both_tests (s / 2 ^ v % 2) (t / 2 ^ v % 2) (mod-lt _ (omega arith)) (mod-lt _ (omega arith))

ones_mask : (p : ℕ → Bool) (n : ℕ) → ones (mask p n) ≡ members p n
unfolding mask members ones
ones_mask p zero = refl
ones_mask p (suc n) = ones_cat n (cond (p n) 1 0) (mask p n) (mask_below p n) ∙ (λ i. one_flag (p n) i + ones_mask p n i)
  where
    one_flag : (b : Bool) → ones (cond b 1 0) ≡ cond b 1 0
    one_flag true = refl
    one_flag false = refl

implied : (b c : Bool) → (b ≡ true → c ≡ true) → (b && c) ≡ b
implied true c h = h refl
implied false c h = refl

pub inside_each : (n s t : ℕ) → mask_inside n s t ≡ true → (v : ℕ) → v < n → bit s v ≡ true → bit t v ≡ true
inside_each n s t e v h b =
    let same = eqb-true (bit_and s t % 2 ^ n) (s % 2 ^ n) e in
    let here = sym (bit_and_lem s t v) ∙ sym (bit_mod n (bit_and s t) v h) ∙ ap (λ x. bit x v) same ∙ bit_mod n s v h ∙ b in
    (and_parts (bit s v) (bit t v) here).1

pub each_inside : (n s t : ℕ) → ((v : ℕ) → v < n → bit s v ≡ true → bit t v ≡ true) → mask_inside n s t ≡ true
each_inside n s t h =
    eq-eqb (bit_and s t % 2 ^ n) (s % 2 ^ n)
    (sym (mask_bits (bit_and s t) n)
    ∙ mask_alike _ _ n (λ v (l : v < n). bit_and_lem s t v ∙ implied (bit s v) (bit t v) (h v l))
    ∙ mask_bits s n)

pub count_tallies : (n s : ℕ) → n ≤ 4 → Tallied (members (bit s) n) (mask_count n s)
count_tallies n s few =
    let e : mask_count n s ≡ members (bit s) n = ap ones (sym (mask_bits s n)) ∙ ones_mask (bit s) n in
    let l : mask_count n s ≤ n = ones-le n (s % 2 ^ n) (mod-lt s (pow_pos n)) in
    exact_tally _ _ (omega arith)

pub mask_none : (p : ℕ → Bool) (n : ℕ) → members p n ≡ 0 → mask p n ≡ 0
unfolding members mask
mask_none p zero e = refl
mask_none p (suc n) e =
    elim (p n) as (λ b. cond b 1 0 + members p n ≡ 0 → cond b 1 0 * 2 ^ n + mask p n ≡ 0)
    [ true ↦ λ z. absurd (omega arith) | false ↦ λ z. omega (arith, mask_none p n (omega arith)) ] e
