-- How many numbers pass a test, and the tally of that.
use Rattle.std.proofs.Common.{◌≡◌, ℕ, zero, suc, ◌+◌, ◌<◌, ◌≤◌, min, Bool, true, false, cond, eqb, refl, ⊎_elim, zero-add, arith}
use Rattle.std.proofs.lemmas.Bool.{cases_eq, eq-eqb, ne_eqb}
use Rattle.kind.specs.Tally.{members, Tallied}

pub members_none : (p : ℕ → Bool) (n : ℕ) → ((v : ℕ) → v < n → p v ≡ false) → members p n ≡ 0
unfolding members
members_none p zero h = refl
members_none p (suc n) h =
    let e = h n (omega arith) in
    let r = members_none p n (λ v lt. h v (omega arith)) in
    rw (e, zero-add) r

-- none passes where the count is 0
pub none_passes : (p : ℕ → Bool) (n : ℕ) → members p n ≡ 0 → (v : ℕ) → v < n → p v ≡ false
unfolding members
none_passes p zero e v lt = absurd (omega arith)
none_passes p (suc n) e v lt =
    ⊎_elim (λ s. rw s (elim (p n) as (λ b. cond b 1 0 + members p n ≡ 0 → b ≡ false) [ true ↦ λ h. absurd (omega arith) | false ↦ λ h. refl ] e))
    (λ s. none_passes p n (omega arith) v (omega arith)) (cases_eq v n)

-- tests that agree are passed by as many
pub members_alike : (p q : ℕ → Bool) (n : ℕ) → ((v : ℕ) → v < n → p v ≡ q v) → members p n ≡ members q n
unfolding members
members_alike p q zero h = refl
members_alike p q (suc n) h =
    let e = h n (omega arith) in
    let r = members_alike p q n (λ v lt. h v (omega arith)) in
    λ i. cond (e i) 1 0 + r i

-- one passes where the count is not 0
pub some_passes : (p : ℕ → Bool) (n : ℕ) → (members p n ≡ 0 → ⊥) → (v : ℕ) × (v < n) × (p v ≡ true)
unfolding members
some_passes p zero h = absurd (h refl)
some_passes p (suc n) h = found (p n) refl (some_passes p n)
  where
    found : (b : Bool) → p n ≡ b → ((members p n ≡ 0 → ⊥) → (v : ℕ) × (v < n) × (p v ≡ true)) → (v : ℕ) × (v < suc n) × (p v ≡ true)
    found true e below = (n, omega arith, e)
    found false e below =
        let rest = below (λ z. h (rw (e, zero-add) z)) in
        (rest.0, omega (arith, rest.1), rest.2)

pub members_all : (n : ℕ) → members (λ _. true) n ≡ n
unfolding members
members_all zero = refl
members_all (suc n) = let r = members_all n in omega arith

pub members_one : (a n : ℕ) → a < n → members (eqb a) n ≡ 1
unfolding members
members_one a zero lt = absurd (omega arith)
members_one a (suc n) lt =
    ⊎_elim
    (λ e.
    let here = eq-eqb a n e in
    let rest = members_none (eqb a) n (λ v low. ne_eqb a v (λ s. omega arith)) in
    rw here (omega arith))
    (λ e.
    let here = ne_eqb a n e in
    let rest = members_one a n (omega arith) in
    rw (here, zero-add) rest)
    (cases_eq a n)

pub members_le : (p : ℕ → Bool) (n : ℕ) → members p n ≤ n
unfolding members
members_le p zero = omega arith
members_le p (suc n) =
    elim (p n) as (λ b. cond b 1 0 + members p n ≤ suc n) [ true ↦ omega (arith, members_le p n) | false ↦ omega (arith, members_le p n) ]

-- a tally that is exact up to 255, and 256 for more
pub exact_tally : (size t : ℕ) → t ≡ min size 256 → Tallied size t
exact_tally size t e = record {
  none = λ z. omega arith;
  no_one = λ z. omega arith;
  single = λ z. omega arith;
  one_only = λ z. omega arith;
  few = λ z. omega arith;
  capped = omega arith;
}
