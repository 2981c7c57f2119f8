-- What the rules make of tables that read alike: walks, entered lines and listings.
use Rattle.std.proofs.Common.{◌≡◌, ℕ, zero, suc, cond, eqb, List, [], ◌∷◌, ◌++◌, length, Some, None, codes, decimal, Option, sym, refl, ap, ◌∙◌, subst, subst₂}
use lib.ListN.{length-map}
use Rattle.kind.specs.declared.Kind.{Ghosts}
use Rattle.kind.specs.Same.{SameMoves, SameMembers}
use Rattle.kind.proofs.Lawful.{Lawful}
use Rattle.kind.proofs.Alike.{comp_alike, inv_alike, meet_alike, shift_alike, inside_alike, none_alike}
use Rattle.table.specs.declared.node.Node.{Node}
use Rattle.table.specs.declared.walks.Route.{Route}
use Rattle.table.specs.Table.{at, settled}
use Rattle.table.specs.Walk.{walk_along, walked}
use Rattle.table.specs.Note.{empty, left, between, joined, noted}
use Rattle.table.specs.See.{seen}
use Rattle.table.specs.Words.{node_read, table_read}
use Rattle.table.proofs.Alike.{cond_two, combined_alike, node_alike, set_alike, left_alike, settled_alike, joined_alike}
use Rattle.rules.specs.Lines.{Line, note, see, entered}
use Rattle.rules.specs.Listing.{listed_from, text_of, listing_of}

module _ {K R S : Type 0} (k : Ghosts K R S) (laws : Lawful k) where
  -- both tables are refused, or both are there and read alike
  abbrev pub Like : Option (List (Node R S)) → Option (List (Node R S)) → Type 0
  Like None None = Unit {0}
  Like None (Some t) = ⊥
  Like (Some u) None = ⊥
  Like (Some u) (Some t) = table_read k u ≡ table_read k t

  -- routes to one reference, by relations that move alike
  abbrev pub LikeRoutes : Route R → Route R → Type 0
  LikeRoutes w z = (w.reference ≡ z.reference) × SameMoves k w.relation z.relation

  -- a note and a sighting, where the references are known
  abbrev noted_at : List (Node R S) → ℕ → ℕ → R → Option (List (Node R S))
  noted_at t r1 r2 h =
      cond (empty k (left k t r1 r2 h)) None (Some (joined k t (record { first = r1; second = r2; by = h; left = left k t r1 r2 h })))

  abbrev settled_at : List (Node R S) → ℕ → S → Option (List (Node R S))
  settled_at t r s = cond (empty k s) None (Some (settled k t r s))

  module _ (t u : List (Node R S)) (alike : table_read k u ≡ table_read k t) where
    link_alike : (x : ℕ) → (at k u x).link ≡ (at k t x).link
    link_alike x = ap (λ n. n.link) (node_alike k laws t u alike x)

    walk_alike : (d x : ℕ) → LikeRoutes (walk_along k u d x) (walk_along k t d x)
    walk_alike zero x = (refl, λ v low. refl)
    walk_alike (suc d) x =
        cond_two LikeRoutes (eqb (at k t x).link x) (eqb (at k u x).link x) _ _ _ _ (ap (λ y. eqb y x) (link_alike x))
        (λ e. (refl, λ v low. refl))
        (λ e.
        let rest = subst (λ y. LikeRoutes (walk_along k u d y) (walk_along k t d (at k t x).link)) (sym (link_alike x)) (walk_alike d (at k t x).link) in
        let link = laws.word_tells _ _ (ap (λ n. n.relation) (node_alike k laws t u alike x)) in
        (rest.0, comp_alike k laws _ _ _ _ link rest.1))

    pub length_alike : length u ≡ length t
    length_alike = sym (length-map u (node_read k)) ∙ ap length alike ∙ length-map t (node_read k)

    pub walked_alike : (x : ℕ) → LikeRoutes (walked k u x) (walked k t x)
    walked_alike x = subst (λ d. LikeRoutes (walk_along k u d x) (walked k t x)) (sym length_alike) (walk_alike (length t) x)

    noted_at_alike : (r1 r2 : ℕ) (h g : R) → SameMoves k h g → Like (noted_at u r1 r2 h) (noted_at t r1 r2 g)
    noted_at_alike r1 r2 h g same =
        let p = left_alike k laws t u alike r1 r2 h g same in
        cond_two Like (empty k (left k t r1 r2 g)) (empty k (left k u r1 r2 h)) _ _ _ _ (none_alike k laws _ _ p) (λ e. tt)
        (λ e. joined_alike k laws t u alike r1 r2 h g _ _ same p e)

    settled_at_alike : (r : ℕ) (s q : S) → SameMembers k s q → Like (settled_at u r s) (settled_at t r q)
    settled_at_alike r s q p =
        cond_two Like (empty k q) (empty k s) _ _ _ _ (none_alike k laws s q p) (λ e. tt) (λ e. settled_alike k laws t u alike r s q p e)

    pub entered_alike : (l : Line R S) → Like (entered k u l) (entered k t l)
    entered_alike (note x y g) =
        let w = walked_alike x in
        let z = walked_alike y in
        subst₂ (λ r1 r2. Like (noted_at u r1 r2 (between k u x y g)) (noted k t x y g)) (sym w.0) (sym z.0)
        (noted_at_alike _ _ _ _ (combined_alike k laws _ _ _ _ _ _ w.1 (λ v low. refl) z.1))
    entered_alike (see x s) =
        let w = walked_alike x in
        subst (λ r. Like (settled_at u r (k.meet (at k u r).set (k.shift (k.inv (walked k u x).relation) s))) (seen k t x s)) (sym w.0)
        (settled_at_alike _ _ _ (meet_alike k laws _ _ _ _ (set_alike k laws t u alike _)
        (shift_alike k laws _ _ s s (inv_alike k laws _ _ w.1) (λ v low. refl))))

    -- lines of x that are written alike in front of n points that follow
    abbrev Ahead : ℕ → ℕ → List (Line R S) → List (Line R S) → Type 0
    Ahead x n ls ms = text_of k (ls ++ listed_from k u (suc x) n) ≡ text_of k (ms ++ listed_from k t (suc x) n)

    listed_alike : (x n : ℕ) → text_of k (listed_from k u x n) ≡ text_of k (listed_from k t x n)
    listed_alike x zero = refl
    listed_alike x (suc n) =
        let rest = listed_alike (suc x) n in
        let w = walked_alike x in
        let words = laws.word_told _ _ w.1 in
        let label = ap (λ m. m.set) (node_alike k laws t u alike x) in
        cond_two (Ahead x n) (eqb (at k t x).link x) (eqb (at k u x).link x) _ _ _ _ (ap (λ y. eqb y x) (link_alike x))
        (λ e.
        cond_two (Ahead x n) _ _ _ _ _ _ (inside_alike k laws _ _ _ _ (λ v low. refl) (set_alike k laws t u alike x)) (λ f. rest)
        (λ f i. (codes "see" ++ (9 ∷ decimal x ++ (9 ∷ label i ++ (10 ∷ [])))) ++ rest i))
        (λ e i. (codes "note" ++ (9 ∷ decimal x ++ (9 ∷ decimal (w.0 i) ++ (9 ∷ words i ++ (10 ∷ []))))) ++ rest i)

    pub listing_alike : listing_of k u ≡ listing_of k t
    listing_alike = ap (λ n. text_of k (listed_from k u 0 n)) length_alike ∙ listed_alike 0 (length t)
