-- The laws of drum relations and of their still sets.
use Rattle.std.specs.Prelude.{◌≡◌, ℕ, ◌+◌, ◌-◌, ◌*◌, ◌%◌, ◌<◌, ◌≤◌, ◌==◌, refl}
use Rattle.std.proofs.Common.{ap, sym, ◌∙◌, ⊎_elim, arith, mul_assoc, add-mul, mul-add, one-mul, mod-lt, add_assoc, mod-eq_of_lt, lit<}
use Rattle.std.proofs.lemmas.Bool.{cases_eq, eq-eqb, ne_eqb}
use Rattle.picks.specs.Picks.{pick_has}
use Rattle.picks.proofs.PickLaws.{same_test}
use Rattle.drums.specs.Drums.{drum_mult, drum_add, drum_number, moved_to, drum_act, inverse251, drum_comp, drum_inv, drum_fixed, InRange}
use Rattle.drums.specs.Modulo.{Like, reduced, sums, products, undo_left, undo_right, product_some, inverse_some, inverse_low}

pub mult_some : (g : ℕ) → 1 ≤ drum_mult g
mult_some g = omega arith

pub mult_low : (g : ℕ) → drum_mult g ≤ 250
mult_low g = omega arith

pub add_low : (g : ℕ) → drum_add g ≤ 250
add_low g = omega arith

-- the number of a|b stands for a|b
pub number_mult : (a b : ℕ) → 1 ≤ a → a ≤ 250 → b ≤ 250 → drum_mult (drum_number a b) ≡ a
number_mult a b some low small = omega arith

pub number_add : (a b : ℕ) → b ≤ 250 → drum_add (drum_number a b) ≡ b
number_add a b small = omega arith

-- the number tells both parts
pub number_parts : (a b : ℕ) → InRange a b → ◌≡◌ {A = ℕ × ℕ} (drum_mult (drum_number a b), drum_add (drum_number a b)) (a, b)
number_parts a b range =
    rw (number_mult a b range.some range.low range.small, number_add a b range.small) refl

number_acts : (a b v : ℕ) → InRange a b → drum_act (drum_number a b) v ≡ moved_to a b v
number_acts a b v range = ap (λ parts. moved_to parts.0 parts.1 v) (number_parts a b range)

residue_low : (x : ℕ) → x % 251 ≤ 250
residue_low x = omega arith

-- what a number stands for is in range, and so are compositions and inverses
in_range : (g : ℕ) → InRange (drum_mult g) (drum_add g)
in_range g = record { some = mult_some g; low = mult_low g; small = add_low g }

comp_in_range : (a b c d : ℕ) → InRange a b → InRange c d → InRange (a * c % 251) ((a * d + b) % 251)
comp_in_range a b c d g h = record {
  some = product_some a c g.some g.low h.some h.low;
  low = residue_low _;
  small = residue_low _;
}

inv_in_range : (a b : ℕ) → InRange a b → InRange (inverse251 a) (inverse251 a * (251 - b) % 251)
inv_in_range a b g = record {
  some = inverse_some a g.some g.low;
  low = inverse_low a;
  small = residue_low _;
}

pub drum_closed : (g v : ℕ) → drum_act g v < 251
drum_closed g v = mod-lt _ (lit< tt)

pub drum_comp_acts : (g h v : ℕ) → drum_act (drum_comp g h) v ≡ drum_act g (drum_act h v)
drum_comp_acts g h v =
    let a = drum_mult g in
    let b = drum_add g in
    let c = drum_mult h in
    let d = drum_add h in
    let left : drum_act (drum_comp g h) v ≡ (a * c * v + (a * d + b)) % 251 =
    number_acts (a * c % 251) ((a * d + b) % 251) v (comp_in_range a b c d (in_range g) (in_range h))
    ∙ sums 251 _ _ _ _ (products 251 _ v _ v (reduced 251 (a * c)) refl) (reduced 251 (a * d + b)) in
    let right : drum_act g (drum_act h v) ≡ (a * (c * v + d) + b) % 251 =
    sums 251 _ b _ b (products 251 a _ a _ refl (reduced 251 (c * v + d))) refl in
    let spread : a * (c * v + d) + b ≡ a * c * v + (a * d + b) =
    ap (λ x. x + b) (mul-add a (c * v) d ∙ ap (λ x. x + a * d) (sym (mul_assoc a c v))) ∙ add_assoc (a * c * v) (a * d) b in
    left ∙ sym (right ∙ ap (λ x. x % 251) spread)

module _ (g : ℕ) where
  -- v less b, divided by a
  inv_acts : (v : ℕ) → drum_act (drum_inv g) v ≡ inverse251 (drum_mult g) * (v + (251 - drum_add g)) % 251
  inv_acts v =
      let a = drum_mult g in
      let i = inverse251 a in
      let less = 251 - drum_add g in
      number_acts i (i * less % 251) v (inv_in_range a (drum_add g) (in_range g))
      ∙ sums 251 (i * v) _ (i * v) _ refl (reduced 251 (i * less)) ∙ ap (λ x. x % 251) (sym (mul-add i v less))

  pub drum_inv_left : (v : ℕ) → v < 251 → drum_act (drum_inv g) (drum_act g v) ≡ v
  drum_inv_left v lt =
      let a = drum_mult g in
      let i = inverse251 a in
      let less : Like 251 (drum_act g v + (251 - drum_add g)) (a * v) = omega arith in
      inv_acts (drum_act g v) ∙ products 251 i _ i _ refl less ∙ undo_right a v (mult_some g) (mult_low g) ∙ mod-eq_of_lt lt

  pub drum_inv_right : (v : ℕ) → v < 251 → drum_act g (drum_act (drum_inv g) v) ≡ v
  drum_inv_right v lt =
      let a = drum_mult g in
      let i = inverse251 a in
      let w = v + (251 - drum_add g) in
      let back : Like 251 (a * (i * w % 251)) w = products 251 a _ a _ refl (reduced 251 (i * w)) ∙ undo_left a w (mult_some g) (mult_low g) in
      ap (drum_act g) (inv_acts v) ∙ omega arith

-- what a|b leaves still, where a is not 1
module _ (a b v : ℕ) (more : 2 ≤ a) (low : a ≤ 250) (lt : v < 251) where
  -- v less a × v
  rest : a * v + (252 - a) * v ≡ 252 * v
  rest = let e : a + (252 - a) ≡ 252 = omega arith in sym (add-mul a (252 - a) v) ∙ ap (λ x. x * v) e

  stays : inverse251 (252 - a) * b % 251 % 251 ≡ v → moved_to a b v ≡ v
  stays e =
      let d = 252 - a in
      let i = inverse251 d in
      let is : Like 251 (d * v) b = ap (λ x. d * x % 251) (sym e ∙ reduced 251 (i * b)) ∙ products 251 d _ d _ refl (reduced 251 (i * b)) ∙ undo_left d b (omega arith) (omega arith) in
      let w = rest in
      omega arith

  stayed : moved_to a b v ≡ v → inverse251 (252 - a) * b % 251 % 251 ≡ v
  stayed e =
      let d = 252 - a in
      let i = inverse251 d in
      let w = rest in
      let is : Like 251 b (d * v) = omega arith in
      reduced 251 (i * b) ∙ products 251 i b i (d * v) refl is ∙ undo_right d v (omega arith) (omega arith) ∙ mod-eq_of_lt lt

pub drum_fixed_has : (g v : ℕ) → v < 251 → pick_has 251 (drum_fixed g) v ≡ (drum_act g v == v)
drum_fixed_has g v lt =
    let a = drum_mult g in
    let b = drum_add g in
    ⊎_elim
    (λ e.
    let plain : drum_act g v ≡ (v + b) % 251 = ap (λ x. (x + b) % 251) (ap (λ x. x * v) e ∙ one-mul v) in
    ⊎_elim
    (λ z. rw (eq-eqb a 1 e, eq-eqb b 0 z) (sym (eq-eqb _ _ (plain ∙ omega arith))))
    (λ n. rw (eq-eqb a 1 e, ne_eqb b 0 n) (sym (ne_eqb _ _ (λ s. omega arith))))
    (cases_eq b 0))
    (λ n. rw (ne_eqb a 1 n) (same_test _ _ _ _ (stays a b v (omega arith) (mult_low g) lt) (stayed a b v (omega arith) (mult_low g) lt)))
    (cases_eq a 1)
