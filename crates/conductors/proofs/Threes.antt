-- The six orders of three conductors, tried one by one.
use Rattle.std.proofs.Common.{◌≡◌, ℕ, ◌+◌, ◌-◌, ◌*◌, ◌/◌, ◌%◌, true, cond, eqb, sym, refl, ◌∙◌, mod-lt, arith, lit<}
use Rattle.std.proofs.lemmas.Nat.{div-mul-add, mod-mul-add}
use Rattle.kind.proofs.Tried.{tried, tried_all}
use Rattle.conductors.specs.Orders.{takes, brings, numbered, order_comp, order_inv}
use Rattle.conductors.proofs.Rounds.{comp_round, inv_round}

-- an even number turns, and an odd one flips
abbrev pub turned_after : ℕ → ℕ → ℕ
turned_after g h = cond (eqb (g % 2) 0) ((g + h) % 6) ((g + 6 - h) % 6)

abbrev pub turned_back : ℕ → ℕ
turned_back g = cond (eqb (g % 2) 0) ((6 - g) % 6) g

pairs : tried (λ k. order_comp 3 (k / 6) (k % 6)) (λ k. turned_after (k / 6) (k % 6)) 36 ≡ true
unfolding tried takes numbered
pairs = refl

singles : tried (order_inv 3) turned_back 6 ≡ true
unfolding tried brings numbered
singles = refl

pub three_after : (g h : ℕ) → turned_after (g % 6) (h % 6) ≡ order_comp 3 g h
three_after g h =
    let a = g % 6 in
    let b = h % 6 in
    let lows = mod-lt g {m = 6} (lit< tt) in
    let low = mod-lt h {m = 6} (lit< tt) in
    let each = tried_all (λ k. order_comp 3 (k / 6) (k % 6)) (λ k. turned_after (k / 6) (k % 6)) 36 pairs (a * 6 + b) (omega arith) in
    let is : order_comp 3 a b ≡ turned_after a b =
    (λ i. order_comp 3 (sym (div-mul-add a 6 b low) i) (sym (mod-mul-add a 6 b low) i)) ∙ each
    ∙ (λ i. turned_after (div-mul-add a 6 b low i) (mod-mul-add a 6 b low i)) in
    sym is ∙ comp_round 3 g h

pub three_back : (g : ℕ) → turned_back (g % 6) ≡ order_inv 3 g
three_back g = sym (tried_all (order_inv 3) turned_back 6 singles (g % 6) (mod-lt g (lit< tt))) ∙ inv_round 3 g
