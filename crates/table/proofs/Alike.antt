-- What the rules make of tables that read alike, with relations that move alike and sets with the same members.
use Rattle.std.proofs.Common.{◌≡◌, ℕ, ◌+◌, min, max, Bool, true, false, cond, ◌&&◌, eqb, leb, List, get_or, set, sym, refl, ap, ◌∙◌}
use Rattle.std.proofs.Math.ListN.{get_or-map}
use Rattle.std.proofs.Math.Seq.{map-set}
use Rattle.std.proofs.lemmas.Bool.{both_ways}
use Rattle.kind.specs.declared.Kind.{Ghosts}
use Rattle.kind.specs.Same.{SameMoves, SameMembers}
use Rattle.kind.proofs.Lawful.{Lawful}
use Rattle.kind.proofs.Alike.{comp_alike, inv_alike, meet_alike, shift_alike, fixed_alike, inside_alike, none_alike, one_alike, label_alike, shift_some}
use Rattle.table.specs.declared.node.Node.{Node}
use Rattle.table.specs.declared.questions.Answer.{Answer}
use Rattle.table.specs.Table.{fresh, at, settled}
use Rattle.table.specs.Words.{node_read, table_read}
use Rattle.table.specs.Note.{combined, empty, left, hung, joined}
use Rattle.table.specs.Ask.{sure, asked_at}

-- two choices by tests that agree
pub cond_two : {A B : Type 0} (P : A → B → Type 0) (b c : Bool) (x y : A) (u v : B) → c ≡ b → (b ≡ true → P x u) → (b ≡ false → P y v) → P (cond c x y) (cond b u v)
cond_two P true true x y u v e p q = p refl
cond_two P true false x y u v e p q = absurd (both_ways false refl e)
cond_two P false true x y u v e p q = absurd (both_ways true e refl)
cond_two P false false x y u v e p q = q refl

module _ {K R S : Type 0} (k : Ghosts K R S) (laws : Lawful k) where
  pub combined_alike : (c1 g c2 d1 h d2 : R) → SameMoves k c1 d1 → SameMoves k g h → SameMoves k c2 d2 → SameMoves k (combined k c1 g c2) (combined k d1 h d2)
  combined_alike c1 g c2 d1 h d2 p q r = comp_alike k laws _ _ _ _ (comp_alike k laws _ _ _ _ (inv_alike k laws c1 d1 p) q) r

  module _ (t u : List (Node R S)) (alike : table_read k u ≡ table_read k t) where
    pub node_alike : (x : ℕ) → node_read k (at k u x) ≡ node_read k (at k t x)
    node_alike x = sym (get_or-map (node_read k) u x (fresh k x)) ∙ ap (λ ns. get_or ns x (node_read k (fresh k x))) alike ∙ get_or-map (node_read k) t x (fresh k x)

    rank_alike : (x : ℕ) → (at k u x).rank ≡ (at k t x).rank
    rank_alike x = ap (λ n. n.rank) (node_alike x)

    pub set_alike : (x : ℕ) → SameMembers k (at k u x).set (at k t x).set
    set_alike x = laws.label_tells _ _ (ap (λ n. n.set) (node_alike x))

    pub left_alike : (r1 r2 : ℕ) (h g : R) → SameMoves k h g → SameMembers k (left k u r1 r2 h) (left k t r1 r2 g)
    left_alike r1 r2 h g same =
        cond_two (SameMembers k) (eqb r1 r2) (eqb r1 r2) _ _ _ _ refl
        (λ e. meet_alike k laws _ _ _ _ (set_alike r1) (fixed_alike k laws h g same))
        (λ e. meet_alike k laws _ _ _ _ (set_alike r1) (shift_alike k laws h g _ _ same (set_alike r2)))

    sure_alike : (r1 r2 : ℕ) (h g : R) → SameMoves k h g → sure k u r1 r2 h ≡ sure k t r1 r2 g
    sure_alike r1 r2 h g same =
        cond_two {A = Bool} {B = Bool} ◌≡◌ (eqb r1 r2) (eqb r1 r2) _ _ _ _ refl
        (λ e. inside_alike k laws _ _ _ _ (set_alike r1) (fixed_alike k laws h g same))
        (λ e i. one_alike k laws _ _ (set_alike r1) i && one_alike k laws _ _ (set_alike r2) i)

    pub asked_alike : (r1 r2 : ℕ) (h g : R) → SameMoves k h g → asked_at k u r1 r2 h ≡ asked_at k t r1 r2 g
    asked_alike r1 r2 h g same =
        cond_two {A = Answer} {B = Answer} ◌≡◌ _ _ _ _ _ _ (none_alike k laws _ _ (left_alike r1 r2 h g same)) (λ e. refl)
        (λ e. cond_two {A = Answer} {B = Answer} ◌≡◌ _ _ _ _ _ _ (sure_alike r1 r2 h g same) (λ f. refl) (λ f. refl))

    put_alike : (x : ℕ) (m n : Node R S) → node_read k m ≡ node_read k n → table_read k (set u x m) ≡ table_read k (set t x n)
    put_alike x m n p = map-set (node_read k) u x m ∙ (λ i. set (alike i) x (p i)) ∙ sym (map-set (node_read k) t x n)

    pub settled_alike : (r : ℕ) (s q : S) → SameMembers k s q → empty k q ≡ false → table_read k (settled k u r s) ≡ table_read k (settled k t r q)
    settled_alike r s q p some =
        let n = node_alike r in
        let words = label_alike k laws s q p some in
        put_alike r _ _ (λ i. record { link = (n i).link; relation = (n i).relation; rank = (n i).rank; set = words i })

    hung_alike : (lower upper : ℕ) (h g : R) (p q : ℕ) (s z : S) → SameMoves k h g → p ≡ q → k.label s ≡ k.label z → table_read k (hung k u lower upper h p s) ≡ table_read k (hung k t lower upper g q z)
    hung_alike lower upper h g p q s z same rank words =
        let below = node_alike lower in
        let above = node_alike upper in
        let word = laws.word_told h g same in
        map-set (node_read k) _ upper _
        ∙ (λ i. set
        (put_alike lower (record { link = upper; relation = h; rank = (at k u lower).rank; set = (at k u lower).set })
        (record { link = upper; relation = g; rank = (at k t lower).rank; set = (at k t lower).set })
        (λ j. record { link = upper; relation = word j; rank = (below j).rank; set = (below j).set }) i)
        upper (record { link = (above i).link; relation = (above i).relation; rank = rank i; set = words i }))
        ∙ sym (map-set (node_read k) _ upper _)

    pub joined_alike : (r1 r2 : ℕ) (h g : R) (s q : S) → SameMoves k h g → SameMembers k s q → empty k q ≡ false
        → table_read k (joined k u (record { first = r1; second = r2; by = h; left = s })) ≡ table_read k (joined k t (record { first = r1; second = r2; by = g; left = q }))
    joined_alike r1 r2 h g s q same p some =
        cond_two (λ a b. table_read k a ≡ table_read k b) (eqb r1 r2) (eqb r1 r2) _ _ _ _ refl
        (λ e. settled_alike r1 s q p some)
        (λ e. cond_two (λ a b. table_read k a ≡ table_read k b) _ _ _ _ _ _ (λ i. leb (rank_alike r2 i) (rank_alike r1 i))
        (λ f. hung_alike r2 r1 _ _ _ _ s q (inv_alike k laws h g same) (λ i. max (rank_alike r1 i) (min (rank_alike r2 i + 1) 255)) (label_alike k laws s q p some))
        (λ f. hung_alike r1 r2 h g _ _ _ _ same (rank_alike r2)
        (label_alike k laws _ _ (shift_alike k laws _ _ s q (inv_alike k laws h g same) p) (shift_some k laws (k.inv g) q some))))
