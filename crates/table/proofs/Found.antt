-- What is found from routes that read like the walks of the rules, and what is stored of it.
use Rattle.std.proofs.Common.{◌≡◌, ℕ, false, cond, List, sym, refl, ap, ◌∙◌}
use Rattle.kind.specs.declared.Kind.{Ghosts}
use Rattle.kind.specs.Same.{SameMoves, SameMembers}
use Rattle.kind.proofs.Lawful.{Lawful}
use Rattle.kind.proofs.Alike.{meet_alike, shift_alike, inv_alike, none_alike}
use Rattle.table.specs.declared.node.Node.{Node}
use Rattle.table.specs.declared.notes.Meeting.{Meeting}
use Rattle.table.specs.declared.questions.Answer.{Answer}
use Rattle.table.specs.declared.questions.Answer.TheVariants.{Holds, Barred, Open}
use Rattle.table.specs.declared.sightings.Narrowing.{Narrowing}
use Rattle.table.specs.declared.walks.Route.{Route}
use Rattle.table.specs.Table.{at, settled}
use Rattle.table.specs.Words.{table_read, route_read}
use Rattle.table.specs.Walk.{walked}
use Rattle.table.specs.Note.{combined, empty, left, between, meeting, joined, Meets}
use Rattle.table.specs.See.{narrowing, Narrows}
use Rattle.table.specs.Ask.{sure, asked_at, asked}
use Rattle.table.specs.Look.{looked}
use Rattle.table.proofs.Alike.{combined_alike, left_alike, asked_alike, joined_alike, settled_alike}

module _ {K R S : Type 0} (k : Ghosts K R S) (laws : Lawful k) (t : List (Node R S)) where
  abbrev Found : Route R → ℕ → Type 0
  Found w x = route_read k w ≡ route_read k (walked k t x)

  reference_found : (w : Route R) (x : ℕ) → Found w x → w.reference ≡ (walked k t x).reference
  reference_found w x e = ap (λ r. r.reference) e

  relation_found : (w : Route R) (x : ℕ) → Found w x → SameMoves k w.relation (walked k t x).relation
  relation_found w x e = laws.word_tells _ _ (ap (λ r. r.relation) e)

  pub between_found : (w z : Route R) (x y : ℕ) (g h : R) → Found w x → Found z y → k.word h ≡ k.word (combined k w.relation g z.relation) → k.word h ≡ k.word (between k t x y g)
  between_found w z x y g h p q e = e ∙ laws.word_told _ _ (combined_alike k laws _ _ _ _ _ _ (relation_found w x p) (λ v low. refl) (relation_found z y q))

  -- the set of the reference
  held_found : (w : Route R) (x : ℕ) (n : Node R S) → Found w x → n ≡ at k t w.reference → n.set ≡ (at k t (walked k t x).reference).set
  held_found w x n p e = ap (λ m. m.set) (e ∙ ap (at k t) (reference_found w x p))

  pub left_found : (w : Route R) (x : ℕ) (s : S) (n : Node R S) → Found w x → n ≡ at k t w.reference → SameMembers k (k.meet n.set (k.shift (k.inv w.relation) s)) (narrowing k t x s).left
  left_found w x s n p e v low =
      ap (λ q. k.has (k.meet q (k.shift (k.inv w.relation) s)) v) (held_found w x n p e)
      ∙ meet_alike k laws _ _ _ _ (λ u small. refl) (shift_alike k laws _ _ s s (inv_alike k laws _ _ (relation_found w x p)) (λ u small. refl)) v low

  pub looked_found : (w : Route R) (x : ℕ) (n : Node R S) → Found w x → n ≡ at k t w.reference → SameMembers k (k.shift w.relation n.set) (looked k t x)
  looked_found w x n p e v low =
      ap (λ q. k.has (k.shift w.relation q) v) (held_found w x n p e)
      ∙ shift_alike k laws _ _ _ _ (relation_found w x p) (λ u small. refl) v low

  -- a meeting that reads like that of the rules leaves as much, and is joined alike
  module _ (x y : ℕ) (g : R) (m : Meeting R S) (meets : Meets k t x y g m) where
    by_met : SameMoves k m.by (between k t x y g)
    by_met = laws.word_tells _ _ meets.by

    left_met : SameMembers k m.left (meeting k t x y g).left
    left_met v low =
        ap (λ s. k.has s v) meets.left_is
        ∙ left_alike k laws t t refl m.first m.second m.by (between k t x y g) by_met v low
        ∙ (λ i. k.has (left k t (meets.first i) (meets.second i) (between k t x y g)) v)

    -- what a question is answered from it
    pub told_met : (a : Answer) → a ≡ cond (empty k m.left) Barred (cond (sure k t m.first m.second m.by) Holds Open) → a ≡ asked k t x y g
    told_met a e =
        e ∙ (λ i. cond (empty k (meets.left_is i)) Barred (cond (sure k t m.first m.second m.by) Holds Open))
        ∙ (λ i. asked_at k t (meets.first i) (meets.second i) m.by)
        ∙ asked_alike k laws t t refl _ _ m.by (between k t x y g) by_met

    pub empty_met : empty k m.left ≡ empty k (meeting k t x y g).left
    empty_met = none_alike k laws _ _ left_met

    pub joined_met : empty k m.left ≡ false → table_read k (joined k t m) ≡ table_read k (joined k t (meeting k t x y g))
    joined_met some =
        joined_alike k laws t t refl m.first m.second m.by (between k t x y g) m.left (meeting k t x y g).left by_met left_met (sym empty_met ∙ some)
        ∙ (λ i. table_read k (joined k t (record { first = meets.first i; second = meets.second i; by = between k t x y g; left = (meeting k t x y g).left })))

  -- and so is a narrowing
  module _ (x : ℕ) (s : S) (n : Narrowing S) (narrows : Narrows k t x s n) where
    pub empty_narrowed : empty k n.left ≡ empty k (narrowing k t x s).left
    empty_narrowed = none_alike k laws _ _ narrows.left

    pub settled_narrowed : empty k n.left ≡ false → table_read k (settled k t n.reference n.left) ≡ table_read k (settled k t (narrowing k t x s).reference (narrowing k t x s).left)
    settled_narrowed some =
        settled_alike k laws t t refl n.reference n.left (narrowing k t x s).left narrows.left (sym empty_narrowed ∙ some)
        ∙ (λ i. table_read k (settled k t (narrows.reference i) (narrowing k t x s).left))
