-- Each order of n conductors has a number.
use Rattle.std.specs.Prelude.{◌≡◌, ℕ, zero, suc, ◌+◌, ◌*◌, ◌/◌, ◌%◌, ◌<◌, ◌≤◌, ◌≢◌, refl}
use Rattle.std.proofs.Common.{sym, ap, ◌∙◌, zero-lt-suc, mul-suc, mul-le-mul_left, mod-lt, mod-eq_of_lt, arith}
use Rattle.std.proofs.Math.Nat.{mod-mod, div-eq_of_lt, add-mul-div_left, add-mul-mod_self_left}
use Rattle.conductors.specs.Orders.{past, back, takes, brings, numbered, order_comp, order_inv}
use Rattle.conductors.specs.Skips.{past_back, back_below}
use Rattle.conductors.specs.OrderLaws.{takes_below, takes_apart, brings_below, brings_apart}

-- f makes an order of the numbers below n
record Ordering (n : ℕ) (f : ℕ → ℕ) : Type 0 where
  closed : (v : ℕ) → v < n → f v < n
  apart : (u v : ℕ) → u < n → v < n → f u ≡ f v → u ≡ v

-- then those after the first are ordered among the places that the first leaves
module _ (m : ℕ) (f : ℕ → ℕ) (order : Ordering (suc m) f) where
  abbrev rest : ℕ → ℕ
  rest u = back (f 0) (f (suc u))

  not_first : (u : ℕ) → u < m → f (suc u) ≢ f 0
  not_first u h e = let z = order.apart (suc u) 0 (omega arith) (omega arith) e in omega arith

  past_rest : (u : ℕ) → u < m → past (f 0) (rest u) ≡ f (suc u)
  past_rest u h = past_back (f 0) (f (suc u)) (not_first u h)

  rest_ordering : Ordering m rest
  rest_ordering = record {
    closed = λ u (h : u < m). back_below m (f 0) (f (suc u)) (order.closed 0 (omega arith)) (order.closed (suc u) (omega arith)) (not_first u h);
    apart = λ u v (hu : u < m) (hv : v < m) (e : rest u ≡ rest v).
        let z = order.apart (suc u) (suc v) (omega arith) (omega arith) (sym (past_rest u hu) ∙ ap (past (f 0)) e ∙ past_rest v hv) in omega arith;
  }

-- a number begins with where 0 goes, and goes on with the number of the rest
number_first : (m d r : ℕ) → d < suc m → (d % suc m + suc m * r) % suc m ≡ d
number_first m d r h = add-mul-mod_self_left (d % suc m) (suc m) r ∙ mod-mod d (suc m) ∙ mod-eq_of_lt h

number_rest : (m d r : ℕ) → (d % suc m + suc m * r) / suc m ≡ r
number_rest m d r =
    let low : d % suc m < suc m = mod-lt d (omega arith) in
    add-mul-div_left (d % suc m) r (omega arith) ∙ ap (λ x. x + r) (div-eq_of_lt low) ∙ omega arith

-- the order that f makes takes v to f v
takes_numbered : (n : ℕ) (f : ℕ → ℕ) → Ordering n f → (v : ℕ) → v < n → takes n (numbered n f) v ≡ f v
unfolding takes numbered
takes_numbered zero f order v h = absurd (omega arith)
takes_numbered (suc m) f order zero h = number_first m (f 0) _ (order.closed 0 h)
takes_numbered (suc m) f order (suc v) h =
    let low : v < m = omega arith in
    let r = numbered m (rest m f order) in
    (λ i. past (number_first m (f 0) r (order.closed 0 (omega arith)) i) (takes m (number_rest m (f 0) r i) v))
    ∙ ap (past (f 0)) (takes_numbered m (rest m f order) (rest_ordering m f order) v low)
    ∙ past_rest m f order v low

-- an order's own number
pub itself_takes : (n k v : ℕ) → v < n → takes n (numbered n (takes n k)) v ≡ takes n k v
itself_takes n k = takes_numbered n (takes n k) (record { closed = takes_below n k; apart = takes_apart n k })

pub comp_takes : (n g h v : ℕ) → v < n → takes n (order_comp n g h) v ≡ takes n g (takes n h v)
comp_takes n g h =
    takes_numbered n (λ v. takes n g (takes n h v)) (record {
      closed = λ v l. takes_below n g _ (takes_below n h v l);
      apart = λ u v lu lv e. takes_apart n h u v lu lv (takes_apart n g _ _ (takes_below n h u lu) (takes_below n h v lv) e);
    })

pub inv_takes : (n g v : ℕ) → v < n → takes n (order_inv n g) v ≡ brings n g v
inv_takes n g = takes_numbered n (brings n g) (record { closed = brings_below n g; apart = brings_apart n g })

pub numbered_alike : (n : ℕ) (f g : ℕ → ℕ) → ((v : ℕ) → v < n → f v ≡ g v) → numbered n f ≡ numbered n g
unfolding numbered
numbered_alike zero f g e = refl
numbered_alike (suc m) f g e =
    let first : f 0 ≡ g 0 = e 0 (omega arith) in
    let rest = numbered_alike m (λ v. back (f 0) (f (suc v))) (λ v. back (g 0) (g (suc v))) (λ (v : ℕ) (h : v < m). λ i. back (first i) (e (suc v) (omega arith) i)) in
    λ i. first i % suc m + suc m * rest i

-- how many orders n conductors have
abbrev pub orders : ℕ → ℕ
orders zero = 1
orders (suc m) = suc m * orders m

pub numbered_below : (n : ℕ) (f : ℕ → ℕ) → numbered n f < orders n
unfolding numbered
numbered_below zero f = omega arith
numbered_below (suc m) f =
    let r = numbered m (λ v. back (f 0) (f (suc v))) in
    let low : suc r ≤ orders m = numbered_below m (λ v. back (f 0) (f (suc v))) in
    omega (arith, mod-lt (f 0) (zero-lt-suc m), mul-le-mul_left (suc m) low, mul-suc (suc m) r)

-- four conductors have 24 orders, and fewer have fewer
pub numbered_small : (n : ℕ) (f : ℕ → ℕ) → n ≤ 4 → numbered n f < 24
numbered_small zero f h = omega (arith, numbered_below 0 f)
numbered_small (suc zero) f h = omega (arith, numbered_below 1 f)
numbered_small (suc (suc zero)) f h = omega (arith, numbered_below 2 f)
numbered_small (suc (suc (suc zero))) f h = omega (arith, numbered_below 3 f)
numbered_small (suc (suc (suc (suc zero)))) f h = omega (arith, numbered_below 4 f)
numbered_small (suc (suc (suc (suc (suc n))))) f h = absurd (omega arith)
