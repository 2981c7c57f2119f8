-- The walk, link by link.
use Rattle.std.proofs.Common.{◌≡◌, ℕ, zero, suc, ◌-◌, ◌<◌, List, length, sym, refl, ap, ◌∙◌, ⊎_elim, arith}
use Rattle.std.proofs.lemmas.List.{get_or_past}
use Rattle.std.proofs.lemmas.Bool.{cond-true, cond-false, eq-eqb, ne_eqb, cases_lt}
use Rattle.kind.specs.declared.Kind.{Ghosts}
use Rattle.kind.specs.Same.{SameMoves}
use Rattle.kind.proofs.Lawful.{Lawful}
use Rattle.kind.proofs.Alike.{assoc_alike, unit_left, unit_right}
use Rattle.table.specs.declared.node.Node.{Node}
use Rattle.table.specs.Table.{at}
use Rattle.table.specs.Walk.{here, linked_by, walk_along, walked, Carries}
use Rattle.table.specs.Words.{route_read}

module _ {K R S : Type 0} (k : Ghosts K R S) (t : List (Node R S)) where
  along_stays : (d x : ℕ) → (at k t x).link ≡ x → walk_along k t d x ≡ here k x
  along_stays zero x e = refl
  along_stays (suc d) x e = cond-true _ _ _ (eq-eqb _ _ e)

  along_goes : (d x : ℕ) → 0 < d → ((at k t x).link ≡ x → ⊥) → walk_along k t d x ≡ linked_by k (at k t x).relation (walk_along k t (d - 1) (at k t x).link)
  along_goes zero x some apart = absurd (omega arith)
  along_goes (suc d) x some apart =
      cond-false _ _ _ (ne_eqb _ _ apart) ∙ ap (λ e. linked_by k (at k t x).relation (walk_along k t e (at k t x).link)) (omega arith)

  -- a point that is linked to another is on the table
  linked_on : (x : ℕ) → ((at k t x).link ≡ x → ⊥) → x < length t
  linked_on x apart = ⊎_elim (λ h. h) (λ h. absurd (apart (ap (λ n. n.link) (get_or_past t x _ h)))) (cases_lt x (length t))

-- a walk from x that has come to `now` by c, with d links left
pub record Along {K R S : Type 0} (k : Ghosts K R S) (t : List (Node R S)) (x d now : ℕ) (c : R) : Type 0 where
  pub ends : (walked k t x).reference ≡ (walk_along k t d now).reference
  pub moves : SameMoves k (walked k t x).relation (k.comp c (walk_along k t d now).relation)
  pub carries : Carries k t x (record { reference = now; relation = c })

module _ {K R S : Type 0} (k : Ghosts K R S) (laws : Lawful k) (t : List (Node R S)) (x : ℕ) where
  pub begins : (d : ℕ) (c : R) → d ≡ length t → c ≡ k.unit → Along k t x d x c
  begins d c all e = rw all (record {
    ends = refl;
    moves = λ v low. sym (ap (λ g. k.act (k.comp g (walked k t x).relation) v) e ∙ unit_left k laws _ v low);
    carries = λ a keeps. sym (ap (λ g. k.act g (a x)) e ∙ laws.unit_acts _ (keeps.low x));
  })

  pub goes_on : (d d' now : ℕ) (c c' : R) (n : Node R S) → Along k t x d now c → 0 < d → d' ≡ d - 1 → n ≡ at k t now → (n.link ≡ now → ⊥) → c' ≡ k.comp c n.relation → Along k t x d' n.link c'
  goes_on d d' now c c' n along some less is apart made =
      let link = ap (λ m. m.link) is in
      let relation = ap (λ m. m.relation) is in
      let leaves : (at k t now).link ≡ now → ⊥ = λ q. apart (link ∙ q) in
      let step = along_goes k t d now some leaves in
      let made_of : c' ≡ k.comp c (at k t now).relation = made ∙ ap (k.comp c) relation in
      rw less (record {
        ends = along.ends ∙ ap (λ w. w.reference) step ∙ ap (λ y. (walk_along k t (d - 1) y).reference) (sym link);
        moves = λ v low.
            along.moves v low ∙ ap (λ w. k.act (k.comp c w.relation) v) step
            ∙ assoc_alike k laws c (at k t now).relation _ v low
            ∙ (λ i. k.act (k.comp (sym made_of i) (walk_along k t (d - 1) (sym link i)).relation) v);
        carries = λ a keeps.
            along.carries a keeps ∙ ap (k.act c) (keeps.kept now (linked_on k t now leaves))
            ∙ sym (laws.comp_acts c (at k t now).relation _ (keeps.low _))
            ∙ (λ i. k.act (sym made_of i) (a (sym link i)));
      })

  -- where there is no link to follow, or none left
  done : (d now : ℕ) (c : R) → Along k t x d now c → walk_along k t d now ≡ here k now → route_read k (record { reference = now; relation = c }) ≡ route_read k (walked k t x)
  done d now c along e =
      let ends : (walked k t x).reference ≡ now = along.ends ∙ ap (λ w. w.reference) e in
      let moves : SameMoves k (walked k t x).relation c = λ v low. along.moves v low ∙ ap (λ w. k.act (k.comp c w.relation) v) e ∙ unit_right k laws c v low in
      let words = laws.word_told _ _ moves in
      λ i. record { reference = sym ends i; relation = sym words i }

  pub stops : (d now : ℕ) (c : R) (n : Node R S) → Along k t x d now c → n ≡ at k t now → n.link ≡ now → route_read k (record { reference = now; relation = c }) ≡ route_read k (walked k t x)
  stops d now c n along is e = done d now c along (along_stays k t d now (ap (λ m. m.link) (sym is) ∙ e))

  pub spent : (d now : ℕ) (c : R) → Along k t x d now c → d ≡ 0 → route_read k (record { reference = now; relation = c }) ≡ route_read k (walked k t x)
  spent zero now c along e = done zero now c along refl
  spent (suc d) now c along e = absurd (omega arith)
