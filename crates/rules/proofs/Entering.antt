-- What an accepted line makes of a table, and when a line is contrary.
use Rattle.std.proofs.Common.{◌≡◌, ℕ, zero, suc, ◌+◌, ◌<◌, ◌≤◌, Bool, true, false, cond, eqb, leb, ◌↔◌, List, [], ◌∷◌, length, get_or, set, Some, None, Option, sym, refl, ap, ◌∙◌, subst, inl, inr, add-zero, zero-add, arith, length-set, get_or-set_other, get_or-set_same}
use Rattle.std.proofs.lemmas.Bool.{eqb-true, eqb-false, eq-eqb, ne_eqb, cases_eq, cond_both, cond-true, cond-false, leb-true, leb-false}
use Rattle.kind.specs.declared.Kind.{Ghosts}
use Rattle.kind.proofs.Lawful.{Lawful}
use Rattle.table.specs.declared.node.Node.{Node}
use Rattle.table.specs.Table.{fresh, at, settled}
use Rattle.table.specs.Walk.{walked}
use Rattle.table.specs.Note.{empty, between, hung, raised}
use Rattle.rules.specs.Lines.{Line, note, see, entered}
use Rattle.rules.specs.Standing.{Assigns, Obeys, On}
use Rattle.rules.proofs.Values.{In, member, none_in, in_meet, in_shift, in_both, in_fixed, back, forth, combined_says}
use Rattle.rules.proofs.Tables.{Sound, Reads, Ends, refs, one_if, walked_ends, walked_says}

module _ {R S : Type 0} where
  refs_from : (x : ℕ) (t : List (Node R S)) (r : ℕ) (d e : Node R S) → r < length t
      → refs x (set t r d) + one_if (x + r) (get_or t r e) ≡ refs x t + one_if (x + r) d
  refs_from x [] r d e h = absurd (omega arith)
  refs_from x (b ∷ t) zero d e h = rw add-zero (omega arith)
  refs_from x (b ∷ t) (suc r) d e h =
      let moved_on : suc x + r ≡ x + suc r = omega arith in
      let rest : refs (suc x) (set t r d) + one_if (x + suc r) (get_or t r e) ≡ refs (suc x) t + one_if (x + suc r) d =
      subst (λ z. refs (suc x) (set t r d) + one_if z (get_or t r e) ≡ refs (suc x) t + one_if z d) moved_on (refs_from (suc x) t r d e (omega arith)) in
      omega arith

  -- how many references there are when the node of r is another
  refs_put : (t : List (Node R S)) (r : ℕ) (d e : Node R S) → r < length t → refs 0 (set t r d) + one_if r (get_or t r e) ≡ refs 0 t + one_if r d
  refs_put t r d e h = subst (λ z. refs 0 (set t r d) + one_if z (get_or t r e) ≡ refs 0 t + one_if z d) (zero-add r) (refs_from 0 t r d e h)

  -- one fewer where r is linked to another point
  refs_fewer : (t : List (Node R S)) (r : ℕ) (d e : Node R S) → r < length t → (get_or t r e).link ≡ r → ¬ (d.link ≡ r) → refs 0 (set t r d) + 1 ≡ refs 0 t
  refs_fewer t r d e h root away =
      let put = refs_put t r d e h in
      let was : one_if r (get_or t r e) ≡ 1 = cond-true _ 1 0 (eq-eqb _ _ root) in
      let is : one_if r d ≡ 0 = cond-false _ 1 0 (ne_eqb _ _ away) in
      omega arith

module _ {K R S : Type 0} (k : Ghosts K R S) where
  -- a fact of each point when the node of r is another: at r, and elsewhere
  put_each : (P : ℕ → Node R S → Type 0) (t : List (Node R S)) (r : ℕ) (d : Node R S) → r < length t
      → P r d → ((x : ℕ) → ¬ (x ≡ r) → P x (at k t x)) → (x : ℕ) → P x (at k (set t r d) x)
  put_each P t r d fits there elsewhere x = elim (cases_eq x r) [
    | inl e ↦ subst (λ y. P y (at k (set t r d) y)) (sym e) (subst (P r) (sym (get_or-set_same t r d (fresh k r) fits)) there)
    | inr ne ↦ subst (P x) (sym (get_or-set_other t r x d (fresh k x) ne)) (elsewhere x ne)
  ]

  -- and back
  put_was : (P : ℕ → Node R S → Type 0) (t : List (Node R S)) (r : ℕ) (d : Node R S)
      → P r (at k t r) → ((x : ℕ) → ¬ (x ≡ r) → P x (at k (set t r d) x)) → (x : ℕ) → P x (at k t x)
  put_was P t r d there elsewhere x = elim (cases_eq x r) [
    | inl e ↦ subst (λ y. P y (at k t y)) (sym e) there
    | inr ne ↦ subst (P x) (get_or-set_other t r x d (fresh k x) ne) (elsewhere x ne)
  ]

  -- the line l turns t into u
  pub record Entered (n : ℕ) (t : List (Node R S)) (l : Line R S) (u : List (Node R S)) : Type 0 where
    pub sound : Sound k n u
    pub more : (a : ℕ → ℕ) → Assigns k n a → Reads k n t a → Obeys k a l → Reads k n u a
    pub less : (a : ℕ → ℕ) → Assigns k n a → Reads k n u a → Reads k n t a × Obeys k a l

  -- a line that is refused is contrary
  abbrev pub Comes : ℕ → List (Node R S) → Line R S → Option (List (Node R S)) → Type 0
  Comes n t l None = (a : ℕ → ℕ) → Assigns k n a → Reads k n t a → Obeys k a l → ⊥
  Comes n t l (Some u) = Entered n t l u

module _ {K R S : Type 0} (k : Ghosts K R S) (laws : Lawful k) (n : ℕ) (t : List (Node R S)) (sound : Sound k n t) (l : Line R S) where
  -- one reference: l says that its value is in q
  module _ (r : ℕ) (ends : Ends k n t r) (q : S) (says : (a : ℕ → ℕ) → Assigns k n a → Reads k n t a → Obeys k a l ↔ In k q (a r)) where
    abbrev s : S
    s = k.meet (at k t r).set q

    abbrev d : Node R S
    d = record { link = (at k t r).link; relation = (at k t r).relation; rank = (at k t r).rank; set = s }

    fits : r < length t
    fits = omega (arith, sound.size, ends.on)

    each : (P : ℕ → Node R S → Type 0) → P r d → ((x : ℕ) → ¬ (x ≡ r) → P x (at k t x)) → (x : ℕ) → P x (at k (set t r d) x)
    each P = put_each k P t r d fits

    is : at k (set t r d) r ≡ d
    is = get_or-set_same t r d (fresh k r) fits

    same_rank : (x : ℕ) → (at k (set t r d) x).rank ≡ (at k t x).rank
    same_rank = each (λ x e. e.rank ≡ (at k t x).rank) refl (λ x ne. refl)

    settled_enters : (v : ℕ) × In k s v → Entered k n t l (set t r d)
    settled_enters value = record {
      sound = record {
        size = length-set t r d ∙ sound.size;
        linked = each (λ x e. x < n → e.link < n) (sound.linked r) (λ x ne. sound.linked x);
        rises = each (λ x e. x < n → ¬ (e.link ≡ x) → e.rank < (at k (set t r d) e.link).rank)
            (λ h away. absurd (away ends.root))
            (λ x ne h away. omega (arith, sound.rises x h away, same_rank (at k t x).link));
        low = λ x h. omega (arith, same_rank x, sound.low x h, refs_put t r d (fresh k r) fits);
        stays = each (λ x e. x < n → e.link ≡ x → (v : ℕ) → v < k.span → k.act e.relation v ≡ v) (sound.stays r) (λ x ne. sound.stays x);
        some = each (λ x e. x < n → e.link ≡ x → (v : ℕ) × In k e.set v) (λ h root. value) (λ x ne. sound.some x);
      };
      more = λ a small reads obeys. record {
        edge = each (λ x e. x < n → a x ≡ k.act e.relation (a e.link)) (reads.edge r) (λ x ne. reads.edge x);
        held = each (λ x e. x < n → e.link ≡ x → In k e.set (a x))
            (λ h root. (in_meet k laws _ _ (a r)).1 (reads.held r h root, (says a small reads).0 obeys)) (λ x ne. reads.held x);
      };
      less = λ a small reads.
          let held : In k s (a r) = subst (λ e. In k e.set (a r)) is (reads.held r ends.on (ap (λ e. e.link) is ∙ ends.root)) in
          let parts = (in_meet k laws (at k t r).set q (a r)).0 held in
          let before : Reads k n t a = record {
            edge = put_was k (λ x e. x < n → a x ≡ k.act e.relation (a e.link)) t r d
                (λ h. subst (λ e. a r ≡ k.act e.relation (a e.link)) is (reads.edge r h)) (λ x ne. reads.edge x);
            held = put_was k (λ x e. x < n → e.link ≡ x → In k e.set (a x)) t r d (λ h root. parts.0) (λ x ne. reads.held x);
          } in
          (before, (says a small before).1 parts.1);
    }

    settled_comes : Comes k n t l (cond (empty k s) None (Some (settled k t r s)))
    settled_comes = cond_both (empty k s) None (Some (settled k t r s)) (Comes k n t l)
        (λ e a small reads obeys. none_in k laws s (a r) e ((in_meet k laws _ _ (a r)).1 (reads.held r ends.on ends.root, (says a small reads).0 obeys)))
        (λ e. settled_enters (member k laws s e))

  -- two references: l says that lo = m·hi, q is what lo and hi leave to hi, and hi gets the rank p
  module _ (lo hi : ℕ) (apart : ¬ (hi ≡ lo)) (ends-lo : Ends k n t lo) (ends-hi : Ends k n t hi) (m : R) (p : ℕ) (q : S) where
    abbrev d_lo : Node R S
    d_lo = record { link = hi; relation = m; rank = (at k t lo).rank; set = (at k t lo).set }

    abbrev d_hi : Node R S
    d_hi = record { link = (at k t hi).link; relation = (at k t hi).relation; rank = p; set = q }

    abbrev t_lo : List (Node R S)
    t_lo = set t lo d_lo

    abbrev u : List (Node R S)
    u = hung k t lo hi m p q

    fits_lo : lo < length t
    fits_lo = omega (arith, sound.size, ends-lo.on)

    fits_hi : hi < length t_lo
    fits_hi = rw (length-set t lo d_lo) (omega (arith, sound.size, ends-hi.on))

    was_hi : at k t_lo hi ≡ at k t hi
    was_hi = get_or-set_other t lo hi d_lo (fresh k hi) apart

    is_hi : at k u hi ≡ d_hi
    is_hi = get_or-set_same t_lo hi d_hi (fresh k hi) fits_hi

    is_lo : at k u lo ≡ d_lo
    is_lo = get_or-set_other t_lo hi lo d_hi (fresh k lo) (λ e. apart (sym e)) ∙ get_or-set_same t lo d_lo (fresh k lo) fits_lo

    fewer : refs 0 t_lo + 1 ≡ refs 0 t
    fewer = refs_fewer t lo d_lo (fresh k lo) fits_lo ends-lo.root apart

    -- with two references no rank is near n
    rank_below : (at k t lo).rank + 2 ≤ n
    rank_below =
        let second = refs_fewer t_lo hi (fresh k lo) (fresh k hi) fits_hi (ap (λ e. e.link) was_hi ∙ ends-hi.root) (λ e. apart (sym e)) in
        omega (arith, fewer, sound.low lo ends-lo.on)

    both_each : (P : ℕ → Node R S → Type 0) → P lo d_lo → P hi d_hi → ((x : ℕ) → P x (at k t x)) → (x : ℕ) → P x (at k u x)
    both_each P at-lo at-hi elsewhere = put_each k P t_lo hi d_hi fits_hi at-hi (λ x ne. put_each k P t lo d_lo fits_lo at-lo (λ y away. elsewhere y) x)

    both_was : (P : ℕ → Node R S → Type 0) → P lo (at k t lo) → P hi (at k t hi) → ((x : ℕ) → P x (at k u x)) → (x : ℕ) → P x (at k t x)
    both_was P at-lo at-hi elsewhere =
        put_was k P t lo d_lo at-lo (λ x ne. put_was k P t_lo hi d_hi (subst (P hi) (sym was_hi) at-hi) (λ y away. elsewhere y) x)

    module _ (says : (a : ℕ → ℕ) → Assigns k n a → Reads k n t a → Obeys k a l ↔ (a lo ≡ k.act m (a hi)))
        (shared : (u v : ℕ) → u < k.span → v < k.span → u ≡ k.act m v → In k q v ↔ (In k (at k t lo).set u × In k (at k t hi).set v))
        (value : (v : ℕ) × In k q v) (above-lo : (at k t lo).rank < p) (above-hi : (at k t hi).rank ≤ p) (near : p ≤ (at k t hi).rank + 1) where
      -- ranks have not fallen
      grown : (x : ℕ) → (at k t x).rank ≤ (at k u x).rank
      grown = both_each (λ x e. (at k t x).rank ≤ e.rank) (omega arith) above-hi (λ x. omega arith)

      one_fewer_left : refs 0 u + 1 ≡ refs 0 t
      one_fewer_left =
          let second = refs_put t_lo hi d_hi (fresh k hi) fits_hi in
          let same : one_if hi (at k t_lo hi) ≡ one_if hi d_hi = ap (one_if hi) was_hi in
          omega (arith, fewer)

      hung_enters : Entered k n t l u
      hung_enters = record {
        sound = record {
          size = length-set t_lo hi d_hi ∙ length-set t lo d_lo ∙ sound.size;
          linked = both_each (λ x e. x < n → e.link < n) (λ h. ends-hi.on) (sound.linked hi) sound.linked;
          rises = both_each (λ x e. x < n → ¬ (e.link ≡ x) → e.rank < (at k u e.link).rank)
              (λ h away. subst (λ e. (at k t lo).rank < e.rank) (sym is_hi) above-lo)
              (λ h away. absurd (away ends-hi.root))
              (λ x h away. omega (arith, sound.rises x h away, grown (at k t x).link));
          low = both_each (λ x e. x < n → e.rank + refs 0 u ≤ n)
              (λ h. omega (arith, one_fewer_left, sound.low lo h)) (λ h. omega (arith, one_fewer_left, near, sound.low hi h))
              (λ x h. omega (arith, one_fewer_left, sound.low x h));
          stays = both_each (λ x e. x < n → e.link ≡ x → (v : ℕ) → v < k.span → k.act e.relation v ≡ v)
              (λ h root. absurd (apart root)) (sound.stays hi) sound.stays;
          some = both_each (λ x e. x < n → e.link ≡ x → (v : ℕ) × In k e.set v) (λ h root. absurd (apart root)) (λ h root. value) sound.some;
        };
        more = λ a small reads obeys.
            let e : a lo ≡ k.act m (a hi) = (says a small reads).0 obeys in
            record {
              edge = both_each (λ x f. x < n → a x ≡ k.act f.relation (a f.link)) (λ h. e) (reads.edge hi) reads.edge;
              held = both_each (λ x f. x < n → f.link ≡ x → In k f.set (a x))
                  (λ h root. absurd (apart root))
                  (λ h root.
                  (shared (a lo) (a hi) (small lo ends-lo.on) (small hi h) e).1 (reads.held lo ends-lo.on ends-lo.root, reads.held hi h root))
                  reads.held;
            };
        less = λ a small reads.
            let e : a lo ≡ k.act m (a hi) = subst (λ f. a lo ≡ k.act f.relation (a f.link)) is_lo (reads.edge lo ends-lo.on) in
            let held_hi : In k q (a hi) = subst (λ f. In k f.set (a hi)) is_hi (reads.held hi ends-hi.on (ap (λ f. f.link) is_hi ∙ ends-hi.root)) in
            let parts = (shared (a lo) (a hi) (small lo ends-lo.on) (small hi ends-hi.on) e).0 held_hi in
            let before : Reads k n t a = record {
              edge = both_was (λ x f. x < n → a x ≡ k.act f.relation (a f.link))
                  (λ h. sym (ap (λ y. k.act (at k t lo).relation (a y)) ends-lo.root ∙ sound.stays lo h ends-lo.root (a lo) (small lo h)))
                  (λ h. subst (λ f. a hi ≡ k.act f.relation (a f.link)) is_hi (reads.edge hi h))
                  reads.edge;
              held = both_was (λ x f. x < n → f.link ≡ x → In k f.set (a x)) (λ h root. parts.0) (λ h root. parts.1) reads.held;
            } in
            (before, (says a small before).1 e);
      }

  -- references r1 and r2: l says that r1 = h·r2
  module _ (few : n ≤ 256) (r1 r2 : ℕ) (ends1 : Ends k n t r1) (ends2 : Ends k n t r2) (h : R)
      (says : (a : ℕ → ℕ) → Assigns k n a → Reads k n t a → Obeys k a l ↔ (a r1 ≡ k.act h (a r2))) where
    abbrev s1 : S
    s1 = (at k t r1).set

    abbrev s2 : S
    s2 = (at k t r2).set

    abbrev s12 : S
    s12 = k.meet s1 (k.shift h s2)

    module _ (apart : ¬ (r1 ≡ r2)) (value : (v : ℕ) × In k s12 v) where
      first_stays : (at k t r2).rank ≤ (at k t r1).rank → Entered k n t l (hung k t r2 r1 (k.inv h) (raised k t r1 r2) s12)
      first_stays ranked =
          let bound = rank_below r2 r1 apart ends2 ends1 (k.inv h) 0 s12 in
          hung_enters r2 r1 apart ends2 ends1 (k.inv h) (raised k t r1 r2) s12
          (λ a small reads.
          let both = says a small reads in
          (λ o. back k laws h (a r1) (a r2) (small r2 ends2.on) (both.0 o), λ e. both.1 (forth k laws h (a r1) (a r2) (small r1 ends1.on) e)))
          (λ u v low-u low-v e.
          let both = in_both k laws h s1 s2 v u low-u (forth k laws h v u low-v e) in
          (λ i. let p = both.0 i in (p.1, p.0), λ p. both.1 (p.1, p.0)))
          value (omega arith) (omega arith) (omega arith)

      second_stays : (at k t r1).rank < (at k t r2).rank → Entered k n t l (hung k t r1 r2 h (at k t r2).rank (k.shift (k.inv h) s12))
      second_stays ranked =
          hung_enters r1 r2 (λ e. apart (sym e)) ends1 ends2 h (at k t r2).rank (k.shift (k.inv h) s12) says
          (λ u v low-u low-v e.
          let both = in_both k laws h s1 s2 u v low-v e in
          let there = in_shift k laws (k.inv h) s12 v u low-u (back k laws h u v low-v e) in
          (λ i. both.0 (there.0 i), λ p. there.1 (both.1 p)))
          (k.act (k.inv h) value.0, (in_shift k laws (k.inv h) s12 _ value.0 value.1.value refl).1 value.1)
          ranked (omega arith) (omega arith)

    -- what is left to r1, and what comes of the note, by whether r1 and r2 are one
    abbrev left_by : Bool → S
    left_by b = cond b (k.meet s1 (k.fixed h)) s12

    abbrev noted_by : Bool → Option (List (Node R S))
    noted_by b = cond (empty k (left_by b)) None (Some (cond b (settled k t r1 (left_by b)) (cond (leb (at k t r2).rank (at k t r1).rank)
        (hung k t r2 r1 (k.inv h) (raised k t r1 r2) (left_by b)) (hung k t r1 r2 h (at k t r2).rank (k.shift (k.inv h) (left_by b))))))

    noted_by_comes : (b : Bool) → eqb r1 r2 ≡ b → Comes k n t l (noted_by b)
    noted_by_comes true e = settled_comes r1 ends1 (k.fixed h) (λ a small reads.
        let both = says a small reads in
        let one : a r2 ≡ a r1 = ap a (sym (eqb-true _ _ e)) in
        let fixed = in_fixed k laws h (a r1) (small r1 ends1.on) in
        (λ o. fixed.1 (both.0 o ∙ ap (k.act h) one), λ i. both.1 (fixed.0 i ∙ ap (k.act h) (sym one))))
    noted_by_comes false e = cond_both (empty k s12) None _ (Comes k n t l)
        (λ q a small reads obeys. none_in k laws s12 (a r1) q ((in_both k laws h s1 s2 (a r1) (a r2) (small r2 ends2.on) ((says a small reads).0 obeys)).1
        (reads.held r1 ends1.on ends1.root, reads.held r2 ends2.on ends2.root)))
        (λ q. cond_both (leb (at k t r2).rank (at k t r1).rank) _ _ (Entered k n t l)
        (λ f. first_stays (eqb-false _ _ e) (member k laws s12 q) (leb-true _ _ f))
        (λ f. second_stays (eqb-false _ _ e) (member k laws s12 q) (leb-false _ _ f)))

module _ {K R S : Type 0} (k : Ghosts K R S) (laws : Lawful k) (n : ℕ) (t : List (Node R S)) (sound : Sound k n t) where
  -- x = g·y comes to r1 = h·r2
  pub note_says : (x y : ℕ) (g : R) → x < n → y < n → (a : ℕ → ℕ) → Assigns k n a → Reads k n t a
      → (a x ≡ k.act g (a y)) ↔ (a (walked k t x).reference ≡ k.act (between k t x y g) (a (walked k t y).reference))
  note_says x y g hx hy a small reads =
      combined_says k laws (walked k t x).relation g (walked k t y).relation (a x) (a y) _ _
      (small _ (walked_ends k laws n t sound x hx).on) (small _ (walked_ends k laws n t sound y hy).on)
      (walked_says k laws n t sound a small reads x hx) (walked_says k laws n t sound a small reads y hy)

  -- a line on the table's points is entered, or contrary
  pub entered_comes : n ≤ 256 → (l : Line R S) → On n l → Comes k n t l (entered k t l)
  entered_comes few (note x y g) on =
      noted_by_comes k laws n t sound (note x y g) few (walked k t x).reference (walked k t y).reference
      (walked_ends k laws n t sound x on.0) (walked_ends k laws n t sound y on.1) (between k t x y g) (note_says x y g on.0 on.1)
      (eqb (walked k t x).reference (walked k t y).reference) refl
  entered_comes few (see x s) on =
      let r : ℕ = (walked k t x).reference in
      let c : R = (walked k t x).relation in
      let end = walked_ends k laws n t sound x on.0 in
      settled_comes k laws n t sound (see x s) r end (k.shift (k.inv c) s) (λ a small reads.
      let there = in_shift k laws (k.inv c) s (a r) (a x) (small x on.0)
      (back k laws c (a x) (a r) (small r end.on) (walked_says k laws n t sound a small reads x on.0)) in
      (λ o. there.1 (record { value = small x on.0; held = o }), λ i. (there.0 i).held))
