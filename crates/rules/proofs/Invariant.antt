-- What holds of every sheet that calls have led to from new: its table is that of the standing lines and says what they say,
-- and so is the table that each open trial goes back to, by the copy that the trial has kept.
use Rattle.std.proofs.Common.{◌≡◌, ℕ, zero, suc, ◌+◌, ◌<◌, ◌≤◌, true, false, eqb, ◌↔◌, List, [], ◌∷◌, ◌++◌, map, length, get_or, Some, None, Option, sym, refl, ap, ◌∙◌, subst, arith, length-append}
use lib.ListN.{length-map}
use Rattle.std.proofs.ByRecursion.{All-push}
use Rattle.std.proofs.lemmas.List.{map-append}
use Rattle.std.proofs.lemmas.Bool.{cond_both, both_ways}
use Rattle.kind.specs.declared.Kind.{Ghosts}
use Rattle.kind.proofs.Lawful.{Lawful}
use Rattle.table.specs.declared.node.Node.{Node}
use Rattle.table.specs.Table.{fresh, fresh_from, at}
use Rattle.table.specs.Words.{table_read}
use Rattle.table.proofs.Alike.{node_alike, set_alike}
use Rattle.table.proofs.Fresh.{fresh_length}
use Rattle.rules.specs.Lines.{Line, or_else, entered, entered_all, table_of}
use Rattle.rules.specs.State.{Kept, State, any_open, lines_kept, new_sheet}
use Rattle.rules.specs.Trials.{keep, put_back, undo, merged}
use Rattle.rules.specs.Words.{kept_read, sheet_read}
use Rattle.rules.specs.Standing.{Standing, nothing_stands, one_fewer, outermost, Assigns, Obeys, ObeysAll}
use Rattle.rules.proofs.Values.{In}
use Rattle.rules.proofs.Tables.{Sound, Reads, refs, one_if}
use Rattle.rules.proofs.Entering.{Entered}
use Rattle.rules.proofs.Alike.{Like, length_alike}
use Rattle.rules.proofs.Listed.{all_parts}

module _ {K R S : Type 0} (k : Ghosts K R S) (n : ℕ) where
  -- the table says of each assignment what the lines say
  pub record Good (t : List (Node R S)) (ls : List (Line R S)) : Type 0 where
    pub sound : Sound k n t
    pub means : (a : ℕ → ℕ) → Assigns k n a → Reads k n t a ↔ ObeysAll k a ls

  -- a table that reads as `view` is that of the lines
  abbrev pub Known : List (Node (List ℕ) (List ℕ)) → List (Line R S) → Type 0
  Known view ls = (view ≡ table_read k (table_of k n ls)) × Good (table_of k n ls) ls

  -- each open trial goes back to the table of its copy, and has accepted the lines past it
  abbrev pub Undoes : List (Node (List ℕ) (List ℕ)) → List (Line R S) → List (List (Kept (List ℕ) (List ℕ))) → List (List (Line R S)) → Type 0
  Undoes view ls [] [] = Unit {0}
  Undoes view ls [] (copy ∷ copies) = ⊥
  Undoes view ls (trial ∷ outer) [] = ⊥
  Undoes view ls (trial ∷ outer) (copy ∷ copies) =
      (length ls ≡ length copy + length trial) × Known (undo trial view) copy × Undoes (undo trial view) copy outer copies

  -- the invariant, of a sheet as it reads
  pub record Stands (number room : ℕ) (view : State (List ℕ) (List ℕ)) (st : Standing R S) : Type 0 where
    pub numbered : view.number ≡ number
    pub roomy : view.room ≡ room
    pub known : Known view.table st.lines
    pub undoes : Undoes view.table st.lines view.trials st.copies

-- a table is known by its words: those that read alike are sound together and say the same
module _ {K R S : Type 0} (k : Ghosts K R S) (laws : Lawful k) (n : ℕ) (t u : List (Node R S)) (alike : table_read k u ≡ table_read k t) where
  same_link : (x : ℕ) → (at k u x).link ≡ (at k t x).link
  same_link x = ap (λ d. d.link) (node_alike k laws t u alike x)

  same_rank : (x : ℕ) → (at k u x).rank ≡ (at k t x).rank
  same_rank x = ap (λ d. d.rank) (node_alike k laws t u alike x)

  same_act : (x v : ℕ) → v < k.span → k.act (at k u x).relation v ≡ k.act (at k t x).relation v
  same_act x = laws.word_tells _ _ (ap (λ d. d.relation) (node_alike k laws t u alike x))

  same_in : (x v : ℕ) → In k (at k u x).set v ↔ In k (at k t x).set v
  same_in x v =
      let members = set_alike k laws t u alike x v in
      (λ i. record { value = i.value; held = sym (members i.value) ∙ i.held }, λ i. record { value = i.value; held = members i.value ∙ i.held })

  refs_read : (x : ℕ) (w : List (Node R S)) → refs x (table_read k w) ≡ refs x w
  refs_read x [] = refl
  refs_read x (d ∷ w) = ap (λ r. one_if x d + r) (refs_read (suc x) w)

  same_refs : refs 0 u ≡ refs 0 t
  same_refs = sym (refs_read 0 u) ∙ ap (refs 0) alike ∙ refs_read 0 t

  alike_sound : Sound k n t → Sound k n u
  alike_sound sound = record {
    size = length_alike k laws t u alike ∙ sound.size;
    linked = λ x h. subst (λ y. y < n) (sym (same_link x)) (sound.linked x h);
    rises = λ x h away.
        let up : (at k t x).rank < (at k t (at k t x).link).rank = sound.rises x h (λ e. away (same_link x ∙ e)) in
        let there : (at k u (at k u x).link).rank ≡ (at k t (at k t x).link).rank = ap (λ y. (at k u y).rank) (same_link x) ∙ same_rank _ in
        omega (arith, same_rank x);
    low = λ x h. omega (arith, same_rank x, same_refs, sound.low x h);
    stays = λ x h e v low. same_act x v low ∙ sound.stays x h (sym (same_link x) ∙ e) v low;
    some = λ x h e. let m = sound.some x h (sym (same_link x) ∙ e) in (m.0, (same_in x m.0).1 m.1);
  }

  alike_reads : Sound k n t → (a : ℕ → ℕ) → Assigns k n a → Reads k n u a ↔ Reads k n t a
  alike_reads sound a small =
      let edge : (x : ℕ) → x < n → k.act (at k u x).relation (a (at k u x).link) ≡ k.act (at k t x).relation (a (at k t x).link) =
      λ x h. ap (λ y. k.act (at k u x).relation (a y)) (same_link x) ∙ same_act x _ (small _ (sound.linked x h)) in (
        λ reads. record { edge = λ x h. reads.edge x h ∙ edge x h; held = λ x h e. (same_in x (a x)).0 (reads.held x h (same_link x ∙ e)) },
        λ reads. record { edge = λ x h. reads.edge x h ∙ sym (edge x h); held = λ x h e. (same_in x (a x)).1 (reads.held x h (sym (same_link x) ∙ e)) },
      )

  pub alike_good : (ls : List (Line R S)) → Good k n t ls → Good k n u ls
  alike_good ls good = record {
    sound = alike_sound good.sound;
    means = λ a small.
        let reads = alike_reads good.sound a small in
        let means = good.means a small in
        (λ r. means.0 (reads.0 r), λ o. reads.1 (means.1 o));
  }

-- a line more
module _ {K R S : Type 0} (k : Ghosts K R S) (laws : Lawful k) (n : ℕ) where
  entered_good : (t u : List (Node R S)) (ls : List (Line R S)) (l : Line R S) → Good k n t ls → Entered k n t l u → Good k n u (ls ++ (l ∷ []))
  entered_good t u ls l good made = record {
    sound = made.sound;
    means = λ a small. (
      λ reads. let was = made.less a small reads in All-push (Obeys k a) ls l ((good.means a small).0 was.0) was.1,
      λ obeyed. let parts = all_parts (Obeys k a) ls (l ∷ []) obeyed in made.more a small ((good.means a small).1 parts.0) parts.1.0,
    );
  }

  entered_push : (t : List (Node R S)) (ls : List (Line R S)) (l : Line R S)
      → entered_all k t (ls ++ (l ∷ [])) ≡ or_else (entered_all k t ls) (entered k (entered_all k t ls) l)
  entered_push t [] l = refl
  entered_push t (m ∷ ls) l = entered_push (or_else t (entered k t m)) ls l

  pub known_push : (t u : List (Node R S)) (ls : List (Line R S)) (l : Line R S)
      → Good k n t ls → Entered k n t l u → Like k laws (Some u) (entered k (table_of k n ls) l) → Known k n (table_read k u) (ls ++ (l ∷ []))
  known_push t u ls l good made like =
      subst (λ w. (table_read k u ≡ table_read k w) × Good k n w (ls ++ (l ∷ []))) (sym (entered_push (fresh_from k 0 n) ls l))
      (after (entered k (table_of k n ls) l) like)
    where
      after : (o : Option (List (Node R S))) → Like k laws (Some u) o
          → (table_read k u ≡ table_read k (or_else (table_of k n ls) o)) × Good k n (or_else (table_of k n ls) o) (ls ++ (l ∷ []))
      after None bad = absurd bad
      after (Some w) reads = (reads, alike_good k laws n u w (sym reads) (ls ++ (l ∷ [])) (entered_good t u ls l good made))

-- a new sheet
module _ {K R S : Type 0} (k : Ghosts K R S) (laws : Lawful k) (n : ℕ) where
  new_at : (x m y : ℕ) (d : Node R S) → y < m → get_or (fresh_from k x m) y d ≡ fresh k (x + y)
  new_at x zero y d h = absurd (omega arith)
  new_at x (suc m) zero d h = ap (fresh k) (omega arith)
  new_at x (suc m) (suc y) d h = new_at (suc x) m y d (omega arith) ∙ ap (fresh k) (omega arith)

  few_refs : (x : ℕ) (t : List (Node R S)) → refs x t ≤ length t
  few_refs x [] = omega arith
  few_refs x (d ∷ t) =
      let rest = few_refs (suc x) t in
      cond_both (eqb d.link x) 1 0 (λ i. i + refs (suc x) t ≤ suc (length t)) (λ e. omega arith) (λ e. omega arith)

  abbrev t0 : List (Node R S)
  t0 = fresh_from k 0 n

  is_new : (x : ℕ) → x < n → at k t0 x ≡ fresh k x
  is_new x h = new_at 0 n x (fresh k x) h ∙ ap (fresh k) (omega arith)

  new_good : Good k n t0 []
  new_good = record {
    sound = record {
      size = fresh_length k 0 n;
      linked = λ x h. subst (λ d. d.link < n) (sym (is_new x h)) h;
      rises = λ x h away. absurd (away (ap (λ d. d.link) (is_new x h)));
      low = λ x h. omega (arith, ap (λ d. d.rank) (is_new x h), few_refs 0 t0, fresh_length k 0 n);
      stays = λ x h e v low. ap (λ d. k.act d.relation v) (is_new x h) ∙ laws.unit_acts v low;
      some = λ x h e. (0, subst (λ d. In k d.set 0) (sym (is_new x h)) (record { value = laws.positive; held = laws.full_has 0 laws.positive }));
    };
    means = λ a small. (
      λ reads. tt,
      λ nothing. record {
        edge = λ x h. sym (ap (λ d. k.act d.relation (a d.link)) (is_new x h) ∙ laws.unit_acts (a x) (small x h));
        held = λ x h e. subst (λ d. In k d.set (a x)) (sym (is_new x h)) (record { value = small x h; held = laws.full_has (a x) (small x h) });
      },
    );
  }

  pub new_stands : (number room : ℕ) → Stands k n number room (sheet_read k (new_sheet k number n room)) nothing_stands
  new_stands number room = record { numbered = refl; roomy = refl; known = (refl, new_good); undoes = tt }

undo_append : {R S : Type 0} (es fs : List (Kept R S)) (t : List (Node R S)) → undo (es ++ fs) t ≡ undo fs (undo es t)
undo_append [] fs t = refl
undo_append (e ∷ es) fs t = undo_append es fs _

-- open trials, and what they have kept
module _ {K R S : Type 0} (k : Ghosts K R S) where
  module _ (n : ℕ) where
    abbrev Views : Type 0
    Views = List (Node (List ℕ) (List ℕ))

    -- a trial is open exactly when a copy is kept
    pub any_copies : (view : Views) (ls : List (Line R S)) (trials : List (List (Kept R S))) (copies : List (List (Line R S)))
        → Undoes k n view ls (map (map (kept_read k)) trials) copies → any_open trials ≡ true → ¬ (copies ≡ [])
    any_copies view ls [] copies u e q = both_ways false refl e
    any_copies view ls (trial ∷ outer) [] u e q = u
    any_copies view ls (trial ∷ outer) (copy ∷ copies) u e q = let z : ◌≡◌ {A = ℕ} 0 1 = cc in omega arith

    pub no_copies : (view : Views) (ls : List (Line R S)) (trials : List (List (Kept R S))) (copies : List (List (Line R S)))
        → Undoes k n view ls (map (map (kept_read k)) trials) copies → any_open trials ≡ false → copies ≡ []
    no_copies view ls [] [] u e = refl
    no_copies view ls [] (copy ∷ copies) u e = absurd u
    no_copies view ls (trial ∷ outer) copies u e = absurd (both_ways true e refl)

    -- the lines that open trials have kept are those past the outermost copy
    pub counted : (trials : List (List (Kept R S))) (copies : List (List (Line R S))) (view : Views) (ls : List (Line R S))
        → Undoes k n view ls (map (map (kept_read k)) trials) copies → length (outermost ls copies) + lines_kept trials ≡ length ls
    counted [] [] view ls u = omega arith
    counted [] (copy ∷ copies) view ls u = absurd u
    counted (trial ∷ outer) [] view ls u = absurd u
    counted (trial ∷ outer) (copy ∷ copies) view ls u =
        omega (arith, counted outer copies (undo (map (kept_read k) trial) view) copy u.2, u.0, length-map trial (kept_read k))

    -- one line more
    pub kept_undoes : (view next : Views) (ls : List (Line R S)) (l : Line R S) (e : Kept R S)
        (trials : List (List (Kept R S))) (copies : List (List (Line R S)))
        → put_back (kept_read k e) next ≡ view → Undoes k n view ls (map (map (kept_read k)) trials) copies
        → Undoes k n next (ls ++ (l ∷ [])) (map (map (kept_read k)) (keep e trials)) copies
    kept_undoes view next ls l e [] [] back u = tt
    kept_undoes view next ls l e [] (copy ∷ copies) back u = u
    kept_undoes view next ls l e (trial ∷ outer) [] back u = u
    kept_undoes view next ls l e (trial ∷ outer) (copy ∷ copies) back u = (
      omega (arith, u.0, length-append ls (l ∷ [])),
      subst (λ w. Known k n (undo (map (kept_read k) trial) w) copy) (sym back) u.1,
      subst (λ w. Undoes k n (undo (map (kept_read k) trial) w) copy (map (map (kept_read k)) outer) copies) (sym back) u.2,
    )

    -- the innermost trial is adopted: what it kept becomes part of the one outside
    pub adopted_undoes : (view : Views) (ls : List (Line R S)) (trial : List (Kept R S)) (rest : List (List (Kept R S))) (copies : List (List (Line R S)))
        → Undoes k n view ls (map (map (kept_read k)) (trial ∷ rest)) copies
        → Undoes k n view ls (map (map (kept_read k)) (merged trial rest)) (one_fewer copies)
    adopted_undoes view ls trial rest [] u = absurd u
    adopted_undoes view ls trial [] (copy ∷ []) u = tt
    adopted_undoes view ls trial [] (copy ∷ (next ∷ copies)) u = u.2
    adopted_undoes view ls trial (outer ∷ rest) (copy ∷ []) u = u.2
    adopted_undoes view ls trial (outer ∷ rest) (copy ∷ (next ∷ copies)) u =
        let inner = u.2 in
        let split : map (kept_read k) (trial ++ outer) ≡ map (kept_read k) trial ++ map (kept_read k) outer = map-append (kept_read k) trial outer in
        let there : undo (map (kept_read k) (trial ++ outer)) view ≡ undo (map (kept_read k) outer) (undo (map (kept_read k) trial) view) =
        ap (λ es. undo es view) split ∙ undo_append (map (kept_read k) trial) (map (kept_read k) outer) view in (
          omega (arith, u.0, inner.0, ap length split, length-append (map (kept_read k) trial) (map (kept_read k) outer)),
          subst (λ w. Known k n w next) (sym there) inner.1,
          subst (λ w. Undoes k n w next (map (map (kept_read k)) rest) copies) (sym there) inner.2,
        )
