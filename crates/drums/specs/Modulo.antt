-- Arithmetic modulo m, and inverses modulo 251.
use Rattle.std.specs.Prelude.{◌≡◌, ℕ, ◌+◌, ◌-◌, ◌*◌, ◌/◌, ◌%◌, ◌^◌, ◌≤◌, true, refl}
use Rattle.std.proofs.Common.{ap, ◌∙◌, ⊎_elim, arith, mul_comm, mul_assoc, add-mul, mul-zero, one-mul, mod-lt, pow-suc, lit<}
use Rattle.std.proofs.Math.Path.{sym}
use Rattle.std.proofs.Math.Nat.{mod-mod, add-mod, div-add-mod, mul-add-mod_self_left, pow-zero}
use Rattle.std.proofs.lemmas.Nat.{pow-add}
use Rattle.std.proofs.lemmas.Bool.{cases_eq}
use Rattle.kind.proofs.Tried.{tried, tried_all}
use Rattle.drums.specs.Drums.{inverse251}

module _ (m : ℕ) where
  -- the numbers have one residue
  abbrev pub Like : ℕ → ℕ → Type 0
  Like x y = x % m ≡ y % m

  pub reduced : (x : ℕ) → Like (x % m) x
  reduced x = mod-mod x m

  pub sums : (x y u v : ℕ) → Like x u → Like y v → Like (x + y) (u + v)
  sums x y u v p q = add-mod x y m ∙ ap (λ z. (z + y % m) % m) p ∙ ap (λ z. (u % m + z) % m) q ∙ sym (add-mod u v m)

  reduced_left : (x y : ℕ) → Like (x % m * y) (x * y)
  reduced_left x y =
      let whole : x * y ≡ m * (x / m * y) + x % m * y =
      ap (λ z. z * y) (sym (div-add-mod x m)) ∙ add-mul (m * (x / m)) (x % m) y ∙ ap (λ z. z + x % m * y) (mul_assoc m (x / m) y) in
      sym (ap (λ z. z % m) whole ∙ mul-add-mod_self_left m (x / m * y) (x % m * y))

  factor : (x u y : ℕ) → Like x u → Like (x * y) (u * y)
  factor x u y p = sym (reduced_left x y) ∙ ap (λ z. z * y % m) p ∙ reduced_left u y

  pub products : (x y u v : ℕ) → Like x u → Like y v → Like (x * y) (u * v)
  products x y u v p q =
      factor x u y p ∙ ap (λ z. z % m) (mul_comm u y) ∙ factor y v u q ∙ ap (λ z. z % m) (mul_comm v u)

  first_power : (a : ℕ) → Like a (a ^ 1)
  first_power a = ap (λ z. z % m) (sym (pow-suc a 0 ∙ ap (λ z. z * a) (pow-zero a) ∙ one-mul a))

  -- the residue of a product of powers
  powers : (a j k x y : ℕ) → Like x (a ^ j) → Like y (a ^ k) → Like (x * y % m) (a ^ (j + k))
  powers a j k x y p q = reduced (x * y) ∙ products x y (a ^ j) (a ^ k) p q ∙ ap (λ z. z % m) (sym (pow-add a j k))

  abbrev pub squared_twice : ℕ → ℕ
  squared_twice x = (x * x % m) * (x * x % m) % m

  fourth_power : (a k x y : ℕ) → Like x (a ^ k) → y ≡ squared_twice x → Like y (a ^ (k + k + (k + k)))
  fourth_power a k x y p e = let s = powers a k k x x p p in ap (λ z. z % m) e ∙ powers a (k + k) (k + k) (x * x % m) (x * x % m) s s

-- a times its power to 249, where a is k + 1
abbrev back_to_one : ℕ → ℕ
back_to_one k = (k + 1) * ((k + 1) ^ 249 % 251) % 251

each_back : tried back_to_one (λ k. 1) 250 ≡ true
unfolding tried
each_back = refl

pub inverse_is : (a : ℕ) → 1 ≤ a → a ≤ 250 → a * inverse251 a % 251 ≡ 1
unfolding inverse251
inverse_is a some low =
    let k : a - 1 + 1 ≡ a = omega arith in
    rw k at (tried_all back_to_one (λ k. 1) 250 each_back (a - 1) (omega arith))

pub inverse_low : (a : ℕ) → inverse251 a ≤ 250
unfolding inverse251
inverse_low a = let h = mod-lt (a ^ 249) {m = 251} (lit< tt) in omega arith

-- the power to 249 by those to 2, 3, 12, 15, 60, 62 and 248
module _ (a : ℕ) where
  abbrev square : ℕ
  square = a * a % 251

  abbrev cube : ℕ
  cube = square * a % 251

  pub power_249 : (p q r : ℕ) → p ≡ squared_twice 251 cube → q ≡ squared_twice 251 (p * cube % 251) → r ≡ squared_twice 251 (q * square % 251) → r * a % 251 ≡ inverse251 a
  unfolding inverse251
  power_249 p q r to-12 to-60 to-248 =
      let one = first_power 251 a in
      let two = powers 251 a 1 1 a a one one in
      let three = powers 251 a 2 1 square a two one in
      let fifteen = powers 251 a 12 3 p cube (fourth_power 251 a 3 cube p three to-12) three in
      let sixty_two = powers 251 a 60 2 q square (fourth_power 251 a 15 (p * cube % 251) q fifteen to-60) two in
      sym (reduced 251 (r * a)) ∙ powers 251 a 248 1 r a (fourth_power 251 a 62 (q * square % 251) r sixty_two to-248) one

-- a divides what it multiplies
pub undo_left : (a x : ℕ) → 1 ≤ a → a ≤ 250 → Like 251 (a * (inverse251 a * x)) x
undo_left a x some low =
    let is : Like 251 (a * inverse251 a) 1 = inverse_is a some low in
    ap (λ z. z % 251) (sym (mul_assoc a (inverse251 a) x)) ∙ products 251 (a * inverse251 a) x 1 x is refl ∙ ap (λ z. z % 251) (one-mul x)

pub undo_right : (a x : ℕ) → 1 ≤ a → a ≤ 250 → Like 251 (inverse251 a * (a * x)) x
undo_right a x some low =
    let swap : inverse251 a * (a * x) ≡ a * (inverse251 a * x) =
    sym (mul_assoc (inverse251 a) a x) ∙ ap (λ z. z * x) (mul_comm (inverse251 a) a) ∙ mul_assoc a (inverse251 a) x in
    ap (λ z. z % 251) swap ∙ undo_left a x some low

-- a product of 0 has a factor 0
pub product_some : (a b : ℕ) → 1 ≤ a → a ≤ 250 → 1 ≤ b → b ≤ 250 → 1 ≤ a * b % 251
product_some a b p q r s =
    ⊎_elim
    (λ e.
    let back = undo_right a b p q in
    let gone = products 251 (inverse251 a) (a * b) (inverse251 a) 0 refl e in
    let none = mul-zero (inverse251 a) in
    absurd (omega arith))
    (λ n. omega arith)
    (cases_eq (a * b % 251) 0)

pub inverse_some : (a : ℕ) → 1 ≤ a → a ≤ 250 → 1 ≤ inverse251 a
inverse_some a some low =
    ⊎_elim
    (λ e. let is = inverse_is a some low in let none : a * inverse251 a ≡ 0 = ap (λ z. a * z) e ∙ mul-zero a in absurd (omega arith))
    (λ n. omega arith)
    (cases_eq (inverse251 a) 0)
