-- A number of an order, and its remainder by the number of orders, stand for one order.
use Rattle.std.proofs.Common.{◌≡◌, ℕ, zero, suc, ◌*◌, ◌/◌, ◌%◌, ◌<◌, cond, eqb, refl, ap, ◌∙◌, mod-lt, mul_comm, arith}
use native.Mathlib.Nat.{mod-mod_of_dvd, dvd-mul_right}
use Rattle.std.proofs.Math.Arith.{mod-mul}
use Rattle.std.proofs.lemmas.Nat.{div-mul-add}
use Rattle.conductors.specs.Orders.{past, back, takes, brings, order_comp, order_inv}
use Rattle.conductors.specs.OrderNumbers.{orders, numbered_alike, numbered_below}

some_orders : (n : ℕ) → 0 < orders n
some_orders n = let low = numbered_below n (λ v. v) in omega arith

-- the remainder by a product has the remainder of the quotient for its quotient
quotient : (a b k : ℕ) → 0 < a → 0 < b → k % (a * b) / a ≡ k / a % b
quotient a b k some many =
    ap (λ x. k % x / a) (mul_comm a b) ∙ ap (λ x. x / a) (mod-mul k many some) ∙ div-mul-add (k / a % b) a (k % a) (mod-lt k some)

module _ (m k : ℕ) where
  first : k % (suc m * orders m) % suc m ≡ k % suc m
  first = mod-mod_of_dvd (suc m) k (dvd-mul_right (suc m) (orders m))

  rest : k % (suc m * orders m) / suc m ≡ k / suc m % orders m
  rest = quotient (suc m) (orders m) k (omega arith) (some_orders m)

takes_round : (n k v : ℕ) → takes n (k % orders n) v ≡ takes n k v
unfolding takes
takes_round zero k v = refl
takes_round (suc m) k zero = first m k
takes_round (suc m) k (suc v) = (λ i. past (first m k i) (takes m (rest m k i) v)) ∙ ap (past (k % suc m)) (takes_round m (k / suc m) v)

brings_round : (n k w : ℕ) → brings n (k % orders n) w ≡ brings n k w
unfolding brings
brings_round zero k w = refl
brings_round (suc m) k w =
    (λ i. cond (eqb w (first m k i)) 0 (suc (brings m (rest m k i) (back (first m k i) w))))
    ∙ ap (λ x. cond (eqb w (k % suc m)) 0 (suc x)) (brings_round m (k / suc m) (back (k % suc m) w))

pub comp_round : (n g h : ℕ) → order_comp n (g % orders n) (h % orders n) ≡ order_comp n g h
comp_round n g h =
    numbered_alike n _ _ (λ v (low : v < n). ap (takes n (g % orders n)) (takes_round n h v) ∙ takes_round n g (takes n h v))

pub inv_round : (n g : ℕ) → order_inv n (g % orders n) ≡ order_inv n g
inv_round n g = numbered_alike n _ _ (λ v (low : v < n). brings_round n g v)
