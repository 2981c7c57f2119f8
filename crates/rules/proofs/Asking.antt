-- A sound table is read by some assignment, whichever values its references are to have of their sets; so each answer is right.
use Rattle.std.proofs.Common.{◌≡◌, ℕ, ◌<◌, Bool, true, false, cond, ◌&&◌, eqb, ◌↔◌, List, sym, refl, ap, ◌∙◌, subst}
use Rattle.std.proofs.lemmas.Bool.{and_parts, and_from, eqb-true, eqb-false, eq-eqb, cond_both, cond-true, both_ways}
use Rattle.kind.specs.declared.Kind.{Ghosts}
use Rattle.kind.proofs.Lawful.{Lawful}
use Rattle.table.specs.declared.node.Node.{Node}
use Rattle.table.specs.declared.questions.Answer.{Answer}
use Rattle.table.specs.declared.questions.Answer.TheVariants.{Holds, Barred, Open}
use Rattle.table.specs.Table.{at}
use Rattle.table.specs.Walk.{walked}
use Rattle.table.specs.Note.{empty, between}
use Rattle.table.specs.Ask.{asked, one_value}
use Rattle.rules.specs.Lines.{Line, note}
use Rattle.rules.specs.Standing.{Assigns, Obeys}
use Rattle.rules.proofs.Values.{In, pick, pick_in, member, none_in, lone, tally_lone, in_meet, in_both, in_fixed, back}
use Rattle.rules.proofs.Tables.{Sound, Reads, Ends, walked_ends, spread, spread_root, spread_assigns, spread_reads}
use Rattle.rules.proofs.Entering.{note_says}

module _ {K R S : Type 0} (k : Ghosts K R S) (n : ℕ) (t : List (Node R S)) where
  -- an assignment that the table reads, with v1 for r1 and v2 for r2
  record Given (r1 v1 r2 v2 : ℕ) : Type 0 where
    gives : ℕ → ℕ
    assigns : Assigns k n gives
    reads : Reads k n t gives
    first : gives r1 ≡ v1
    second : gives r2 ≡ v2

  module _ (l : Line R S) where
    abbrev pub ReadFollows : Type 0
    ReadFollows = (a : ℕ → ℕ) → Assigns k n a → Reads k n t a → Obeys k a l

    abbrev pub ReadContrary : Type 0
    ReadContrary = (a : ℕ → ℕ) → Assigns k n a → Reads k n t a → Obeys k a l → ⊥

    -- what an answer says of the assignments that the table reads
    abbrev pub Fits : Answer → Type 0
    Fits Holds = ReadFollows
    Fits Barred = ReadContrary
    Fits Open = (¬ ReadFollows) × (¬ ReadContrary)

module _ {K R S : Type 0} (k : Ghosts K R S) (laws : Lawful k) (n : ℕ) (t : List (Node R S)) (sound : Sound k n t) where
  pub satisfied : (a : ℕ → ℕ) × Assigns k n a × Reads k n t a
  satisfied = (spread k laws n t sound p, spread_assigns k laws n t sound p picks, spread_reads k laws n t sound p picks)
    where
      p : ℕ → ℕ
      p x = pick k (at k t x).set

      picks : (x : ℕ) → x < n → (at k t x).link ≡ x → In k (at k t x).set (p x)
      picks x h e = let m = sound.some x h e in pick_in k (at k t x).set m.0 m.1

  given : (r1 v1 r2 v2 : ℕ) → Ends k n t r1 → Ends k n t r2 → In k (at k t r1).set v1 → In k (at k t r2).set v2 → (r1 ≡ r2 → v1 ≡ v2)
      → Given k n t r1 v1 r2 v2
  given r1 v1 r2 v2 e1 e2 i1 i2 same = record {
    gives = spread k laws n t sound p;
    assigns = spread_assigns k laws n t sound p picks;
    reads = spread_reads k laws n t sound p picks;
    first = spread_root k laws n t sound p picks r1 e1.on e1.root ∙ p_first;
    second = spread_root k laws n t sound p picks r2 e2.on e2.root ∙ p_second;
  }
    where
      p : ℕ → ℕ
      p x = cond (eqb x r1) v1 (cond (eqb x r2) v2 (pick k (at k t x).set))

      p_first : p r1 ≡ v1
      p_first = cond-true _ _ _ (eq-eqb r1 r1 refl)

      p_second : p r2 ≡ v2
      p_second = cond_both (eqb r2 r1) _ _ (λ v. v ≡ v2) (λ e. same (sym (eqb-true _ _ e))) (λ e. cond-true _ _ _ (eq-eqb r2 r2 refl))

      picks : (x : ℕ) → x < n → (at k t x).link ≡ x → In k (at k t x).set (p x)
      picks x h root = cond_both (eqb x r1) _ _ (In k (at k t x).set)
          (λ e. subst (λ y. In k (at k t y).set v1) (sym (eqb-true _ _ e)) i1)
          (λ e. cond_both (eqb x r2) _ _ (In k (at k t x).set)
          (λ f. subst (λ y. In k (at k t y).set v2) (sym (eqb-true _ _ f)) i2)
          (λ f. let m = sound.some x h root in pick_in k (at k t x).set m.0 m.1))

  module _ (x y : ℕ) (g : R) (hx : x < n) (hy : y < n) where
    abbrev q : Line R S
    q = note x y g

    abbrev r1 : ℕ
    r1 = (walked k t x).reference

    abbrev r2 : ℕ
    r2 = (walked k t y).reference

    abbrev h : R
    h = between k t x y g

    abbrev s1 : S
    s1 = (at k t r1).set

    abbrev s2 : S
    s2 = (at k t r2).set

    abbrev s12 : S
    s12 = k.meet s1 (k.shift h s2)

    e1 : Ends k n t r1
    e1 = walked_ends k laws n t sound x hx

    e2 : Ends k n t r2
    e2 = walked_ends k laws n t sound y hy

    says : (a : ℕ → ℕ) → Assigns k n a → Reads k n t a → Obeys k a q ↔ (a r1 ≡ k.act h (a r2))
    says = note_says k laws n t sound x y g hx hy

    module _ (one : r1 ≡ r2) where
      -- an assignment obeys exactly when h takes the value of r1 to itself
      obeys_fixed : (a : ℕ → ℕ) → Assigns k n a → Reads k n t a → Obeys k a q ↔ In k (k.fixed h) (a r1)
      obeys_fixed a small reads =
          let both = says a small reads in
          let same : a r2 ≡ a r1 = ap a (sym one) in
          let fixed = in_fixed k laws h (a r1) (small r1 e1.on) in
          (λ o. fixed.1 (both.0 o ∙ ap (k.act h) same), λ i. both.1 (fixed.0 i ∙ ap (k.act h) (sym same)))

      taken : (v : ℕ) → In k s1 v → Given k n t r1 v r2 v
      taken v i = given r1 v r2 v e1 e2 i (subst (λ r. In k (at k t r).set v) one i) (λ e. refl)

      one_fits : Fits k n t q (cond (empty k (k.meet s1 (k.fixed h))) Barred (cond (k.inside s1 (k.fixed h)) Holds Open))
      one_fits = cond_both (empty k (k.meet s1 (k.fixed h))) _ _ (Fits k n t q)
          (λ e a small reads o. none_in k laws _ (a r1) e ((in_meet k laws _ _ (a r1)).1 (reads.held r1 e1.on e1.root, (obeys_fixed a small reads).0 o)))
          (λ e. cond_both (k.inside s1 (k.fixed h)) _ _ (Fits k n t q)
          (λ w a small reads.
          let i = reads.held r1 e1.on e1.root in
          (obeys_fixed a small reads).1 (record { value = i.value; held = laws.inside_all s1 (k.fixed h) w (a r1) i.value i.held }))
          (λ w. (
            λ follows. both_ways _ w (laws.all_inside s1 (k.fixed h) (λ v low i.
                let a = taken v (record { value = low; held = i }) in
                (subst (In k (k.fixed h)) a.first ((obeys_fixed a.gives a.assigns a.reads).0 (follows a.gives a.assigns a.reads))).held)),
            λ contrary.
                let m = member k laws (k.meet s1 (k.fixed h)) e in
                let parts = (in_meet k laws s1 (k.fixed h) m.0).0 m.1 in
                let a = taken m.0 parts.0 in
                contrary a.gives a.assigns a.reads
                ((obeys_fixed a.gives a.assigns a.reads).1 (subst (In k (k.fixed h)) (sym a.first) parts.1)),
          )))

    module _ (apart : ¬ (r1 ≡ r2)) where
      any_two : (u v : ℕ) → In k s1 u → In k s2 v → Given k n t r1 u r2 v
      any_two u v i j = given r1 u r2 v e1 e2 i j (λ e. absurd (apart e))

      -- if every assignment obeys, both sets have one value
      both_lone : ReadFollows k n t q → (one_value k t r1 && one_value k t r2) ≡ true
      both_lone follows =
          let m1 = sound.some r1 e1.on e1.root in
          let m2 = sound.some r2 e2.on e2.root in
          let tied : (u v : ℕ) → In k s1 u → In k s2 v → u ≡ k.act h v = λ u v i j.
          let a = any_two u v i j in
          sym a.first ∙ (says a.gives a.assigns a.reads).0 (follows a.gives a.assigns a.reads) ∙ ap (k.act h) a.second in
          let from : (v : ℕ) → In k s2 v → v ≡ k.act (k.inv h) m1.0 = λ v j. back k laws h m1.0 v j.value (tied m1.0 v m1.1 j) in
          and_from _ _ (tally_lone k laws s1 m1.0 m1.1 (λ w i. tied w m2.0 i m2.1 ∙ sym (tied m1.0 m2.0 m1.1 m2.1)))
          (tally_lone k laws s2 m2.0 m2.1 (λ w j. from w j ∙ sym (from m2.0 m2.1)))

      -- where r1 may have u and r2 may have v, u = h·v
      open_or_holds : (u v : ℕ) → In k s12 u → v < k.span → u ≡ k.act h v → Fits k n t q (cond (one_value k t r1 && one_value k t r2) Holds Open)
      open_or_holds u v i low u-is =
          let parts = (in_both k laws h s1 s2 u v low u-is).0 i in
          cond_both (one_value k t r1 && one_value k t r2) _ _ (Fits k n t q)
          (λ w a small reads.
          let tallies = and_parts _ _ w in
          let first = lone k laws s1 (a r1) u tallies.0 (reads.held r1 e1.on e1.root) parts.0 in
          let second = lone k laws s2 (a r2) v tallies.1 (reads.held r2 e2.on e2.root) parts.1 in
          (says a small reads).1 (first ∙ u-is ∙ ap (k.act h) (sym second)))
          (λ w. (
            λ follows. both_ways _ w (both_lone follows),
            λ contrary.
                let a = any_two u v parts.0 parts.1 in
                contrary a.gives a.assigns a.reads ((says a.gives a.assigns a.reads).1 (a.first ∙ u-is ∙ ap (k.act h) (sym a.second))),
          ))

      two_fit : Fits k n t q (cond (empty k s12) Barred (cond (one_value k t r1 && one_value k t r2) Holds Open))
      two_fit = cond_both (empty k s12) _ _ (Fits k n t q)
          (λ e a small reads o. none_in k laws s12 (a r1) e ((in_both k laws h s1 s2 (a r1) (a r2) (small r2 e2.on) ((says a small reads).0 o)).1
          (reads.held r1 e1.on e1.root, reads.held r2 e2.on e2.root)))
          (λ e.
          let m = member k laws s12 e in
          open_or_holds m.0 _ m.1 (laws.closed (k.inv h) m.0 m.1.value) (sym (laws.inv_right h m.0 m.1.value)))

    asked_by : (b : Bool) → eqb r1 r2 ≡ b
        → Fits k n t q (cond (empty k (cond b (k.meet s1 (k.fixed h)) s12)) Barred
        (cond (cond b (k.inside s1 (k.fixed h)) (one_value k t r1 && one_value k t r2)) Holds Open))
    asked_by true e = one_fits (eqb-true _ _ e)
    asked_by false e = two_fit (eqb-false _ _ e)

    pub asked_fits : Fits k n t q (asked k t x y g)
    asked_fits = asked_by (eqb r1 r2) refl
