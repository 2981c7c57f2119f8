-- Tables that calls can lead to from new, and what they say of an assignment.
use Rattle.std.proofs.Common.{◌≡◌, ℕ, zero, suc, ◌+◌, ◌<◌, ◌≤◌, cond, eqb, List, [], ◌∷◌, length, sym, ap, ◌∙◌, subst, inl, inr, arith}
use Rattle.std.proofs.lemmas.Bool.{eqb-true, eqb-false, eq-eqb, ne_eqb, cases_eq, cond_both, cond-true, cond-false}
use Rattle.kind.specs.declared.Kind.{Ghosts}
use Rattle.kind.proofs.Lawful.{Lawful}
use Rattle.table.specs.declared.node.Node.{Node}
use Rattle.table.specs.Table.{at}
use Rattle.table.specs.Walk.{here, linked_by, walk_along, walked}
use Rattle.rules.specs.Standing.{Assigns}
use Rattle.rules.proofs.Values.{In}

module _ {R S : Type 0} where
  abbrev pub one_if : ℕ → Node R S → ℕ
  one_if x d = cond (eqb d.link x) 1 0

  -- how many references a table has, whose first point is x
  abbrev pub refs : ℕ → List (Node R S) → ℕ
  refs x [] = 0
  refs x (d ∷ t) = one_if x d + refs (suc x) t

module _ {K R S : Type 0} (k : Ghosts K R S) (n : ℕ) (t : List (Node R S)) where
  -- a table of n points that is sound: links stay on it and lead to higher ranks; no rank is higher than n less the number of
  -- references; and each reference has a relation that moves nothing and a set that has a value
  pub record Sound : Type 0 where
    pub size : length t ≡ n
    pub linked : (x : ℕ) → x < n → (at k t x).link < n
    pub rises : (x : ℕ) → x < n → ¬ ((at k t x).link ≡ x) → (at k t x).rank < (at k t (at k t x).link).rank
    pub low : (x : ℕ) → x < n → (at k t x).rank + refs 0 t ≤ n
    pub stays : (x : ℕ) → x < n → (at k t x).link ≡ x → (v : ℕ) → v < k.span → k.act (at k t x).relation v ≡ v
    pub some : (x : ℕ) → x < n → (at k t x).link ≡ x → (v : ℕ) × In k (at k t x).set v

  -- what the table says of an assignment
  pub record Reads (a : ℕ → ℕ) : Type 0 where
    pub edge : (x : ℕ) → x < n → a x ≡ k.act (at k t x).relation (a (at k t x).link)
    pub held : (x : ℕ) → x < n → (at k t x).link ≡ x → In k (at k t x).set (a x)

  -- r is a reference
  pub record Ends (r : ℕ) : Type 0 where
    pub on : r < n
    pub root : (at k t r).link ≡ r

module _ {K R S : Type 0} (k : Ghosts K R S) (laws : Lawful k) (n : ℕ) (t : List (Node R S)) (sound : Sound k n t) where
  -- far enough up there is no further link
  top : (x : ℕ) → x < n → n ≤ (at k t x).rank → (at k t x).link ≡ x
  top x h far = elim (cases_eq (at k t x).link x) [
    | inl e ↦ e
    | inr ne ↦ absurd (omega (arith, sound.rises x h ne, sound.low (at k t x).link (sound.linked x h)))
  ]

  walk_ends : (d x : ℕ) → x < n → n ≤ (at k t x).rank + d → Ends k n t (walk_along k t d x).reference
  walk_ends zero x h far = record { on = h; root = top x h (omega arith) }
  walk_ends (suc d) x h far =
      let up : ℕ = (at k t x).link in
      cond_both (eqb up x) (here k x) (linked_by k (at k t x).relation (walk_along k t d up)) (λ w. Ends k n t w.reference)
      (λ e. record { on = h; root = eqb-true _ _ e })
      (λ e. walk_ends d up (sound.linked x h) (omega (arith, sound.rises x h (eqb-false _ _ e))))

  walk_says : (a : ℕ → ℕ) → Assigns k n a → Reads k n t a → (d x : ℕ) → x < n → n ≤ (at k t x).rank + d
      → a x ≡ k.act (walk_along k t d x).relation (a (walk_along k t d x).reference)
  walk_says a small reads zero x h far = sym (laws.unit_acts (a x) (small x h))
  walk_says a small reads (suc d) x h far =
      let up : ℕ = (at k t x).link in
      let g : R = (at k t x).relation in
      cond_both (eqb up x) (here k x) (linked_by k g (walk_along k t d up)) (λ w. a x ≡ k.act w.relation (a w.reference))
      (λ e. sym (laws.unit_acts (a x) (small x h)))
      (λ e.
      let on = sound.linked x h in
      let above : n ≤ (at k t up).rank + d = omega (arith, sound.rises x h (eqb-false _ _ e)) in
      reads.edge x h ∙ ap (k.act g) (walk_says a small reads d up on above)
      ∙ sym (laws.comp_acts g _ _ (small _ (walk_ends d up on above).on)))

  -- a link more changes nothing
  walk_more : (d x : ℕ) → x < n → n ≤ (at k t x).rank + d → walk_along k t d x ≡ walk_along k t (suc d) x
  walk_more zero x h far = sym (cond-true _ _ _ (eq-eqb _ _ (top x h (omega arith))))
  walk_more (suc d) x h far =
      let up : ℕ = (at k t x).link in
      cond_both (eqb up x) (here k x) (linked_by k (at k t x).relation (walk_along k t d up)) (λ w. w ≡ walk_along k t (suc (suc d)) x)
      (λ e. sym (cond-true _ _ _ e))
      (λ e.
      let rest = walk_more d up (sound.linked x h) (omega (arith, sound.rises x h (eqb-false _ _ e))) in
      ap (linked_by k (at k t x).relation) rest ∙ sym (cond-false _ _ _ e))

  pub walked_ends : (x : ℕ) → x < n → Ends k n t (walked k t x).reference
  walked_ends x h = walk_ends (length t) x h (omega (arith, sound.size))

  pub walked_says : (a : ℕ → ℕ) → Assigns k n a → Reads k n t a → (x : ℕ) → x < n → a x ≡ k.act (walked k t x).relation (a (walked k t x).reference)
  walked_says a small reads x h = walk_says a small reads (length t) x h (omega (arith, sound.size))

  -- at a reference, and at another point
  walked_root : (x : ℕ) → x < n → (at k t x).link ≡ x → walked k t x ≡ here k x
  walked_root x h e = walk_more (length t) x h (omega (arith, sound.size)) ∙ cond-true _ _ _ (eq-eqb _ _ e)

  walked_on : (x : ℕ) → x < n → ¬ ((at k t x).link ≡ x) → walked k t x ≡ linked_by k (at k t x).relation (walked k t (at k t x).link)
  walked_on x h ne = walk_more (length t) x h (omega (arith, sound.size)) ∙ cond-false _ _ _ (ne_eqb _ _ ne)

  -- the assignment that gives each reference r the value p r
  module _ (p : ℕ → ℕ) where
    abbrev pub spread : ℕ → ℕ
    spread x = k.act (walked k t x).relation (p (walked k t x).reference)

    module _ (picks : (x : ℕ) → x < n → (at k t x).link ≡ x → In k (at k t x).set (p x)) where
      picked : (x : ℕ) → x < n → p (walked k t x).reference < k.span
      picked x h = let end = walked_ends x h in (picks _ end.on end.root).value

      pub spread_root : (x : ℕ) → x < n → (at k t x).link ≡ x → spread x ≡ p x
      spread_root x h e =
          ap (λ w. k.act w.relation (p w.reference)) (walked_root x h e) ∙ laws.unit_acts (p x) (picks x h e).value

      pub spread_assigns : Assigns k n spread
      spread_assigns x h = laws.closed _ _ (picked x h)

      pub spread_reads : Reads k n t spread
      spread_reads = record {
        edge = λ x h. elim (cases_eq (at k t x).link x) [
          | inl e ↦ sym (sound.stays x h e _ (spread_assigns _ (sound.linked x h)) ∙ ap spread e)
          | inr ne ↦
              ap (λ w. k.act w.relation (p w.reference)) (walked_on x h ne)
              ∙ laws.comp_acts (at k t x).relation _ _ (picked _ (sound.linked x h))
        ];
        held = λ x h e. subst (In k (at k t x).set) (sym (spread_root x h e)) (picks x h e);
      }
