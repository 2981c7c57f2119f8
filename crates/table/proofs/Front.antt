-- What the rules make of the front of a longer list of nodes.
use Rattle.std.proofs.Common.{◌≡◌, ℕ, ◌+◌, ◌<◌, min, max, eqb, leb, List, take, drop, set, sym, refl, ap, ◌∙◌, drop-set-lt}
use Rattle.std.proofs.Math.Seq.{take-set-lt}
use Rattle.std.proofs.lemmas.List.{get_or-take}
use Rattle.std.proofs.lemmas.Bool.{cond_both}
use Rattle.kind.specs.declared.Kind.{Ghosts}
use Rattle.table.specs.declared.node.Node.{Node}
use Rattle.table.specs.declared.notes.Meeting.{Meeting}
use Rattle.table.specs.Table.{at, settled, fresh}
use Rattle.table.specs.Note.{hung, raised, joined}
use Rattle.table.proofs.Alike.{cond_two}

module _ {K R S : Type 0} (k : Ghosts K R S) (n : ℕ) (t : List (Node R S)) where
  at_front : (x : ℕ) → x < n → at k t x ≡ at k (take n t) x
  at_front x low = sym (get_or-take n t x (fresh k x) low)

  pub settled_front : (r : ℕ) (s : S) → r < n → take n (settled k t r s) ≡ settled k (take n t) r s
  settled_front r s low =
      let e = at_front r low in
      take-set-lt n t r _ low ∙ (λ i. set (take n t) r (record { link = (e i).link; relation = (e i).relation; rank = (e i).rank; set = s }))

  hung_front : (lower upper : ℕ) (g : R) (p q : ℕ) (s : S) → lower < n → upper < n → p ≡ q → take n (hung k t lower upper g p s) ≡ hung k (take n t) lower upper g q s
  hung_front lower upper g p q s low high same =
      let below = at_front lower low in
      let above = at_front upper high in
      let top : Node R S = record { link = (at k t upper).link; relation = (at k t upper).relation; rank = p; set = s } in
      take-set-lt n _ upper top high ∙ ap (λ u. set u upper top) (take-set-lt n t lower _ low)
      ∙ (λ i. set (set (take n t) lower (record { link = upper; relation = g; rank = (below i).rank; set = (below i).set }))
      upper (record { link = (above i).link; relation = (above i).relation; rank = same i; set = s }))

  pub joined_front : (m : Meeting R S) → m.first < n → m.second < n → take n (joined k t m) ≡ joined k (take n t) m
  joined_front m low high =
      let first : (at k t m.first).rank ≡ (at k (take n t) m.first).rank = ap (λ d. d.rank) (at_front m.first low) in
      let second : (at k t m.second).rank ≡ (at k (take n t) m.second).rank = ap (λ d. d.rank) (at_front m.second high) in
      cond_two (λ a b. take n a ≡ b) (eqb m.first m.second) (eqb m.first m.second) _ _ _ _ refl
      (λ e. settled_front m.first m.left low)
      (λ e. cond_two (λ a b. take n a ≡ b) _ _ _ _ _ _ (λ i. leb (second i) (first i))
      (λ f. hung_front m.second m.first _ _ _ m.left high low (λ i. max (first i) (min (second i + 1) 255)))
      (λ f. hung_front m.first m.second _ _ _ _ low high second))

  -- what lies past the front stays
  pub settled_past : (r : ℕ) (s : S) → r < n → drop n (settled k t r s) ≡ drop n t
  settled_past r s low = drop-set-lt n t r _ low

  hung_past : (lower upper : ℕ) (g : R) (p : ℕ) (s : S) → lower < n → upper < n → drop n (hung k t lower upper g p s) ≡ drop n t
  hung_past lower upper g p s low high = drop-set-lt n _ upper _ high ∙ drop-set-lt n t lower _ low

  pub joined_past : (m : Meeting R S) → m.first < n → m.second < n → drop n (joined k t m) ≡ drop n t
  joined_past m low high =
      each (λ u. drop n u ≡ drop n t) (settled_past m.first m.left low)
      (hung_past m.second m.first _ _ m.left high low)
      (hung_past m.first m.second _ _ _ low high)
    where
      each : (P : List (Node R S) → Type 0) → P (settled k t m.first m.left)
          → P (hung k t m.second m.first (k.inv m.by) (raised k t m.first m.second) m.left)
          → P (hung k t m.first m.second m.by (at k t m.second).rank (k.shift (k.inv m.by) m.left))
          → P (joined k t m)
      each P a b c =
          cond_both (eqb m.first m.second) _ _ P (λ e. a)
          (λ e. cond_both (leb (at k t m.second).rank (at k t m.first).rank) _ _ P (λ f. b) (λ f. c))
