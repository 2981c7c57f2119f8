-- Which values belong to the sets that a kind makes, and what its relations take them to.
use Rattle.std.proofs.Common.{◌≡◌, ℕ, zero, suc, ◌<◌, ◌≤◌, Bool, true, false, cond, eqb, ◌↔◌, sym, ap, ◌∙◌, subst, inl, inr, arith}
use Rattle.std.proofs.lemmas.Bool.{and_parts, and_from, eqb-true, eqb-false, eq-eqb, ne_eqb, both_ways, cond_both, cases_eq, cases_order, cases_Bool}
use Rattle.kind.specs.declared.Kind.{Ghosts}
use Rattle.kind.specs.Tally.{members}
use Rattle.kind.proofs.Lawful.{Lawful}
use Rattle.kind.proofs.Members.{none_passes, some_passes, members_alike, members_one}
use Rattle.table.specs.Note.{combined, empty}

-- two that pass a test are counted as two
two_pass : (p : ℕ → Bool) (n v w : ℕ) → v < w → w < n → p v ≡ true → p w ≡ true → 2 ≤ members p n
unfolding members
two_pass p zero v w order low pv pw = absurd (omega arith)
two_pass p (suc n) v w order low pv pw = elim (cases_eq w n) [
  | inl e ↦
      let here : p n ≡ true = subst (λ x. p x ≡ true) e pw in
      elim (cases_eq (members p n) 0) [ inl none ↦ absurd (both_ways _ (none_passes p n none v (omega arith)) pv) | inr some ↦ rw here (omega arith) ]
  | inr ne ↦ omega (arith, two_pass p n v w order (omega arith) pv pw)
]

module _ {K R S : Type 0} (k : Ghosts K R S) where
  -- v is a value, and belongs to s
  pub record In (s : S) (v : ℕ) : Type 0 where
    pub value : v < k.span
    pub held : k.has s v ≡ true

  -- some value below n that belongs to s, if there is one
  pick_below : S → ℕ → ℕ
  pick_below s zero = 0
  pick_below s (suc n) = cond (k.has s n) n (pick_below s n)

  pick_found : (s : S) (n v : ℕ) → v < n → k.has s v ≡ true → (pick_below s n < n) × (k.has s (pick_below s n) ≡ true)
  unfolding pick_below
  pick_found s zero v low e = absurd (omega arith)
  pick_found s (suc n) v low e = cond_both (k.has s n) n (pick_below s n) (λ w. (w < suc n) × (k.has s w ≡ true))
      (λ q. (omega arith, q))
      (λ q. elim (cases_eq v n) [
        | inl same ↦ absurd (both_ways _ (ap (k.has s) same ∙ q) e)
        | inr ne ↦ let below = pick_found s n v (omega arith) e in (omega (arith, below.0), below.1)
      ])

  pub pick : S → ℕ
  pick s = pick_below s k.span

  pub pick_in : (s : S) (v : ℕ) → In s v → In s (pick s)
  unfolding pick
  pick_in s v i = let found = pick_found s k.span v i.value i.held in record { value = found.0; held = found.1 }

module _ {K R S : Type 0} (k : Ghosts K R S) (laws : Lawful k) where
  -- a set that is not empty has a value
  pub member : (s : S) → empty k s ≡ false → (v : ℕ) × In k s v
  member s e =
      let m = some_passes (k.has s) k.span (λ z. eqb-false _ _ e ((laws.count_tells s).no_one z)) in
      (m.0, record { value = m.1; held = m.2 })

  pub none_in : (s : S) (v : ℕ) → empty k s ≡ true → In k s v → ⊥
  none_in s v e i = both_ways _ (none_passes (k.has s) k.span ((laws.count_tells s).none (eqb-true _ _ e)) v i.value) i.held

  -- a set whose tally is 1 has one value, and conversely
  pub lone : (s : S) (v w : ℕ) → eqb (k.count s) 1 ≡ true → In k s v → In k s w → v ≡ w
  lone s v w e i j =
      let one : members (k.has s) k.span ≡ 1 = (laws.count_tells s).single (eqb-true _ _ e) in
      elim (cases_order v w) [
        | inl same ↦ same
        | inr (inl less) ↦ absurd (omega (arith, two_pass (k.has s) k.span v w less j.value i.held j.held))
        | inr (inr more) ↦ absurd (omega (arith, two_pass (k.has s) k.span w v more i.value j.held i.held))
      ]

  pub tally_lone : (s : S) (v : ℕ) → In k s v → ((w : ℕ) → In k s w → w ≡ v) → eqb (k.count s) 1 ≡ true
  tally_lone s v i only =
      eq-eqb _ _ ((laws.count_tells s).one_only (members_alike (k.has s) (eqb v) k.span tells ∙ members_one v k.span i.value))
    where
      tells : (w : ℕ) → w < k.span → k.has s w ≡ eqb v w
      tells w low = elim (cases_Bool (k.has s w)) [
        | inl e ↦ e ∙ sym (eq-eqb v w (sym (only w (record { value = low; held = e }))))
        | inr e ↦ e ∙ sym (ne_eqb v w (λ q. both_ways _ (ap (k.has s) q ∙ e) i.held))
      ]

  pub in_meet : (s t : S) (v : ℕ) → In k (k.meet s t) v ↔ (In k s v × In k t v)
  in_meet s t v = (
    λ i.
        let both = and_parts _ _ (sym (laws.meet_has s t v i.value) ∙ i.held) in
        (record { value = i.value; held = both.0 }, record { value = i.value; held = both.1 }),
    λ p. record { value = p.0.value; held = laws.meet_has s t v p.0.value ∙ and_from _ _ p.0.held p.1.held },
  )

  -- u = g·v exactly when v = inv(g)·u
  pub back : (g : R) (u v : ℕ) → v < k.span → u ≡ k.act g v → v ≡ k.act (k.inv g) u
  back g u v low e = sym (ap (k.act (k.inv g)) e ∙ laws.inv_left g v low)

  pub forth : (g : R) (u v : ℕ) → u < k.span → v ≡ k.act (k.inv g) u → u ≡ k.act g v
  forth g u v low e = sym (ap (k.act g) e ∙ laws.inv_right g u low)

  -- g·v belongs to shift(g, s) exactly when v belongs to s
  pub in_shift : (g : R) (s : S) (u v : ℕ) → v < k.span → u ≡ k.act g v → In k (k.shift g s) u ↔ In k s v
  in_shift g s u v low e =
      let u_low : u < k.span = subst (λ w. w < k.span) (sym e) (laws.closed g v low) in
      let same : k.has (k.shift g s) u ≡ k.has s v = laws.shift_has g s u u_low ∙ ap (k.has s) (sym (back g u v low e)) in
      (λ i. record { value = low; held = sym same ∙ i.held }, λ i. record { value = u_low; held = same ∙ i.held })

  -- u = h·v belongs to what is left of s1 and s2 exactly when u belongs to s1 and v to s2
  pub in_both : (h : R) (s1 s2 : S) (u v : ℕ) → v < k.span → u ≡ k.act h v → In k (k.meet s1 (k.shift h s2)) u ↔ (In k s1 u × In k s2 v)
  in_both h s1 s2 u v low e =
      let both = in_meet s1 (k.shift h s2) u in
      let there = in_shift h s2 u v low e in
      (λ i. let p = both.0 i in (p.0, there.0 p.1), λ p. both.1 (p.0, there.1 p.1))

  pub in_fixed : (g : R) (v : ℕ) → v < k.span → In k (k.fixed g) v ↔ (v ≡ k.act g v)
  in_fixed g v low = (
    λ i. sym (eqb-true _ _ (sym (laws.fixed_has g v low) ∙ i.held)),
    λ e. record { value = low; held = laws.fixed_has g v low ∙ eq-eqb _ _ (sym e) },
  )

  -- where x = c1·r1 and y = c2·r2: x = g·y exactly when r1 = h·r2, for h combined of c1, g and c2
  pub combined_says : (c1 g c2 : R) (x y r1 r2 : ℕ) → r1 < k.span → r2 < k.span → x ≡ k.act c1 r1 → y ≡ k.act c2 r2
      → (x ≡ k.act g y) ↔ (r1 ≡ k.act (combined k c1 g c2) r2)
  combined_says c1 g c2 x y r1 r2 low1 low2 ex ey = (
    λ e. back c1 there r1 low1 (ap (k.act g) (sym ey) ∙ sym e ∙ ex) ∙ sym acts,
    λ e. ex ∙ sym (forth c1 there r1 (laws.closed g _ (laws.closed c2 r2 low2)) (e ∙ acts)) ∙ ap (k.act g) (sym ey),
  )
    where
      there : ℕ
      there = k.act g (k.act c2 r2)

      acts : k.act (combined k c1 g c2) r2 ≡ k.act (k.inv c1) (k.act g (k.act c2 r2))
      acts = laws.comp_acts (k.comp (k.inv c1) g) c2 r2 low2 ∙ laws.comp_acts (k.inv c1) g (k.act c2 r2) (laws.closed c2 r2 low2)
