-- What the functions of a kind make of relations that move alike and of sets with the same members.
use Rattle.std.proofs.Common.{◌≡◌, ℕ, ◌<◌, Bool, true, false, ◌&&◌, eqb, sym, refl, ap, ◌∙◌}
use Rattle.std.proofs.lemmas.Bool.{eqb-true, eqb-false, eq-eqb, ne_eqb}
use Rattle.kind.specs.declared.Kind.{Ghosts}
use Rattle.kind.specs.Same.{SameMoves, SameMembers}
use Rattle.kind.proofs.Inverses.{inverses_alike}
use Rattle.kind.proofs.Lawful.{Lawful}
use Rattle.kind.proofs.Members.{members_none, none_passes, members_alike, some_passes}

-- tests that follow from each other are equal
same_test : (b c : Bool) → (b ≡ true → c ≡ true) → (c ≡ true → b ≡ true) → b ≡ c
same_test true c p q = sym (p refl)
same_test false true p q = q refl
same_test false false p q = refl

module _ {K R S : Type 0} (k : Ghosts K R S) (laws : Lawful k) where
  pub comp_alike : (g h g' h' : R) → SameMoves k g g' → SameMoves k h h' → SameMoves k (k.comp g h) (k.comp g' h')
  comp_alike g h g' h' p q v low =
      laws.comp_acts g h v low ∙ p _ (laws.closed h v low) ∙ ap (k.act g') (q v low) ∙ sym (laws.comp_acts g' h' v low)

  pub inv_alike : (g h : R) → SameMoves k g h → SameMoves k (k.inv g) (k.inv h)
  inv_alike = inverses_alike k.span k.act k.inv laws.closed laws.inv_left laws.inv_right

  pub assoc_alike : (f g h : R) → SameMoves k (k.comp f (k.comp g h)) (k.comp (k.comp f g) h)
  assoc_alike f g h v low =
      laws.comp_acts f (k.comp g h) v low ∙ ap (k.act f) (laws.comp_acts g h v low)
      ∙ sym (laws.comp_acts (k.comp f g) h v low ∙ laws.comp_acts f g _ (laws.closed h v low))

  pub unit_left : (g : R) → SameMoves k (k.comp k.unit g) g
  unit_left g v low = laws.comp_acts _ g v low ∙ laws.unit_acts _ (laws.closed g v low)

  pub unit_right : (g : R) → SameMoves k (k.comp g k.unit) g
  unit_right g v low = laws.comp_acts g _ v low ∙ ap (k.act g) (laws.unit_acts v low)

  pub meet_alike : (s t s' t' : S) → SameMembers k s s' → SameMembers k t t' → SameMembers k (k.meet s t) (k.meet s' t')
  meet_alike s t s' t' p q v low = laws.meet_has s t v low ∙ (λ i. p v low i && q v low i) ∙ sym (laws.meet_has s' t' v low)

  pub shift_alike : (g h : R) (s t : S) → SameMoves k g h → SameMembers k s t → SameMembers k (k.shift g s) (k.shift h t)
  shift_alike g h s t p q v low =
      laws.shift_has g s v low ∙ q _ (laws.closed (k.inv g) v low) ∙ ap (k.has t) (inv_alike g h p v low) ∙ sym (laws.shift_has h t v low)

  pub fixed_alike : (g h : R) → SameMoves k g h → SameMembers k (k.fixed g) (k.fixed h)
  fixed_alike g h p v low = laws.fixed_has g v low ∙ ap (λ w. eqb w v) (p v low) ∙ sym (laws.fixed_has h v low)

  pub inside_alike : (s t s' t' : S) → SameMembers k s s' → SameMembers k t t' → k.inside s t ≡ k.inside s' t'
  inside_alike s t s' t' p q =
      same_test _ _
      (λ e. laws.all_inside s' t' (λ v low i. sym (q v low) ∙ laws.inside_all s t e v low (p v low ∙ i)))
      (λ e. laws.all_inside s t (λ v low i. q v low ∙ laws.inside_all s' t' e v low (sym (p v low) ∙ i)))

  -- tallies of sets with the same members agree on 0 and on 1
  pub none_alike : (s t : S) → SameMembers k s t → eqb (k.count s) 0 ≡ eqb (k.count t) 0
  none_alike s t p = same_test _ _ (over s t p) (over t s (λ v low. sym (p v low)))
    where
      over : (s t : S) → SameMembers k s t → eqb (k.count s) 0 ≡ true → eqb (k.count t) 0 ≡ true
      over s t p e =
          eq-eqb _ _ ((laws.count_tells t).no_one (sym (members_alike _ _ k.span p) ∙ (laws.count_tells s).none (eqb-true _ _ e)))

  pub one_alike : (s t : S) → SameMembers k s t → eqb (k.count s) 1 ≡ eqb (k.count t) 1
  one_alike s t p = same_test _ _ (over s t p) (over t s (λ v low. sym (p v low)))
    where
      over : (s t : S) → SameMembers k s t → eqb (k.count s) 1 ≡ true → eqb (k.count t) 1 ≡ true
      over s t p e =
          eq-eqb _ _ ((laws.count_tells t).one_only (sym (members_alike _ _ k.span p) ∙ (laws.count_tells s).single (eqb-true _ _ e)))

  -- a set whose tally is not 0 has a member
  member : (s : S) → eqb (k.count s) 0 ≡ false → (v : ℕ) × (v < k.span) × (k.has s v ≡ true)
  member s e = some_passes (k.has s) k.span (λ z. eqb-false _ _ e ((laws.count_tells s).no_one z))

  -- such sets have one word where they have the same members
  pub label_alike : (s t : S) → SameMembers k s t → eqb (k.count t) 0 ≡ false → k.label s ≡ k.label t
  label_alike s t p e =
      let m = member t e in
      laws.label_told s t m.0 m.1 (p m.0 m.1 ∙ m.2) p

  -- a set keeps a member when it is moved
  pub shift_some : (g : R) (s : S) → eqb (k.count s) 0 ≡ false → eqb (k.count (k.shift g s)) 0 ≡ false
  shift_some g s e =
      ne_eqb _ _ (λ z.
      eqb-false _ _ e ((laws.count_tells s).no_one (members_none (k.has s) k.span (λ v low.
      let high = laws.closed g v low in
      ap (k.has s) (sym (laws.inv_left g v low)) ∙ sym (laws.shift_has g s _ high)
      ∙ none_passes _ k.span ((laws.count_tells (k.shift g s)).none z) _ high))))
