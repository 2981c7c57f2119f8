-- Every succession of calls from a new sheet is right.
use Rattle.std.proofs.Common.{◌≡◌, ℕ, ◌+◌, ◌<◌, ◌≤◌, true, false, ◌&&◌, eqb, leb, List, [], ◌∷◌, ◌++◌, map, length, take, drop, Some, None, Option, sym, refl, ap, ◌∙◌, subst, subst₂, inl, inr, arith, length-take-le, take_at, drop_at}
use Rattle.std.proofs.lemmas.Bool.{and_parts, and_cases, eqb-true, eqb-false, cond_both, ltb-true, ltb-false, leb-true, leb-false}
use Rattle.kind.specs.declared.Kind.{Ghosts}
use Rattle.kind.proofs.Lawful.{Lawful, Worded}
use Rattle.table.specs.declared.node.Node.{Node}
use Rattle.table.specs.declared.questions.Answer.{Answer}
use Rattle.table.specs.declared.questions.Answer.TheVariants as answer
use Rattle.table.specs.Ask.{asked}
use Rattle.table.specs.Words.{table_read}
use Rattle.page.specs.Filled.{Filled, wrote, added}
use Rattle.rules.specs.Lines.{Line, note, first_of, second_of, entered, table_of}
use Rattle.rules.specs.Listing.{lines_of, listing_of, bound_of}
use Rattle.rules.specs.State.{Kept, State, new_sheet, on, any_open, in_trial, full, with_table}
use Rattle.rules.specs.Trials.{kept, undo}
use Rattle.rules.specs.Words.{kept_read, sheet_read}
use Rattle.rules.specs.Calls.{Call, enter, ask, suppose, adopt, retract, listing, Outcome, accepted, answered, handed, refused}
use Rattle.rules.specs.Calls.{Taken, stays, adopts, retracts, lists, takes_in, called}
use Rattle.rules.specs.Standing.{Standing, nothing_stands, stands_after, back_to, On, Open, Full, Follows, Contrary}
use Rattle.rules.specs.Right.{Told, Means, Right, listed_text}
use Rattle.rules.specs.Reached.{Event, final, standing, Step, Succession, AllRight, WhateverFollows, Reached, RightHere, Makes, Bounded}
use Rattle.rules.proofs.Tables.{Sound, walked_ends}
use Rattle.rules.proofs.Entering.{Comes, entered_comes}
use Rattle.rules.proofs.Asking.{Fits, asked_fits, satisfied}
use Rattle.rules.proofs.Undoing.{Restored, entered_restores}
use Rattle.rules.proofs.Listed.{listing_says, listing_on}
use Rattle.rules.proofs.Alike.{Like, entered_alike, listing_alike}
use Rattle.rules.proofs.Same.{undo_read}
use Rattle.rules.proofs.Texts.{text_means}
use Rattle.rules.proofs.Bounds.{listing_bound}
use Rattle.rules.proofs.Invariant.{Good, Known, Undoes, Stands, alike_good, known_push, new_stands}
use Rattle.rules.proofs.Invariant.{any_copies, no_copies, counted, kept_undoes, adopted_undoes}

-- what a text adds to a page that has room for it is the text
added_is : (p : Filled) (text : List ℕ) → p.mark + length text ≤ length p.bytes → added p (wrote p text) ≡ text
added_is p text fits =
    ap (λ i. take i (drop p.mark (wrote p text).bytes)) (omega arith)
    ∙ ap (take (length text)) (drop_at (take p.mark p.bytes) _ p.mark (length-take-le p.mark p.bytes (omega arith)))
    ∙ take_at text _ (length text) refl

refused_apart : (i j : ℕ) → ¬ (i ≡ j) → ¬ (refused i ≡ refused j)
refused_apart i j apart e = apart (cc)

not_refused : (j : ℕ) → ¬ (accepted ≡ refused j)
not_refused j e = let z : ◌≡◌ {A = ℕ} 0 1 = cc in omega arith

module _ {K R S : Type 0} (k : Ghosts K R S) (laws : Lawful k) (worded : Worded k) (n number room : ℕ) (few : n ≤ 256) where
  -- a call on a sheet of which the invariant holds
  module _ (s : State R S) (st : Standing R S) (inv : Stands k n number room (sheet_read k s) st) where
    abbrev t : List (Node R S)
    t = s.table

    abbrev ls : List (Line R S)
    ls = st.lines

    good : Good k n t ls
    good = alike_good k laws n (table_of k n ls) t inv.known.0 ls inv.known.1

    -- the call is right, and leaves a sheet of which the invariant holds
    abbrev Well : Call R S → Taken R S → Type 0
    Well c r = Right k n number room st c r.outcome × Stands k n number room (sheet_read k r.left) (stands_after st c r.outcome)

    opened : in_trial s ≡ true → Open st
    opened = any_copies k n (table_read k t) ls s.trials st.copies inv.undoes

    shut : in_trial s ≡ false → ¬ (Open st)
    shut e o = o (no_copies k n (table_read k t) ls s.trials st.copies inv.undoes e)

    on_both : (x y : ℕ) → (on s x && on s y) ≡ true → (x < n) × (y < n)
    on_both x y e =
        let both = and_parts (on s x) (on s y) e in
        (omega (arith, ltb-true x (length t) both.0, good.sound.size), omega (arith, ltb-true y (length t) both.1, good.sound.size))

    off : (x y : ℕ) → (on s x && on s y) ≡ false → ¬ ((x < n) × (y < n))
    off x y e h = elim (and_cases (on s x) (on s y) e) [
      | inl q ↦ omega (arith, ltb-false x (length t) q, good.sound.size, h.0)
      | inr q ↦ omega (arith, ltb-false y (length t) q, good.sound.size, h.1)
    ]

    -- notes and sightings
    module _ (l : Line R S) (here : On n l) where
      is_full : full s ≡ true → Full room st
      is_full e =
          let both = and_parts _ _ e in
          (opened both.0, omega (arith, counted k n s.trials st.copies (table_read k t) ls inv.undoes, leb-true _ _ both.1, inv.roomy))

      has_room : full s ≡ false → ¬ (Full room st)
      has_room e f = elim (and_cases _ _ e) [
        | inl q ↦ shut q f.0
        | inr q ↦ omega (arith, counted k n s.trials st.copies (table_read k t) ls inv.undoes, leb-false _ _ q, inv.roomy, f.1)
      ]

      takes_well : (o : Option (List (Node R S))) → Comes k n t l o → Restored k t l o → Like k laws o (entered k (table_of k n ls) l)
          → Well (enter l) (takes_in k s l o)
      takes_well None comes back like =
          let contrary : Contrary k n ls l = λ a small obeyed o. comes a small ((good.means a small).1 obeyed) o in
          ((inr (λ f. f here, inl (contrary, refl)), λ h. (λ e. contrary, λ c. refl)), inv)
      takes_well (Some u) comes back like =
          let a = satisfied k laws n u comes.sound in
          let possible : ¬ (Contrary k n ls l) = λ contrary.
          let was = comes.less a.0 a.1 a.2 in contrary a.0 a.1 ((good.means a.0 a.1).0 was.0) was.1 in
          cond_both (full s) _ _ (Well (enter l))
          (λ e. (
            (inr (λ f. f here, inr (possible, inl (is_full e, refl))), λ h. (λ q. absurd (refused_apart 7 6 (omega arith) q), λ c. absurd (possible c))),
            inv,
          ))
          (λ e. (
            (inr (λ f. f here, inr (possible, inr (has_room e, refl))), λ h. (λ q. absurd (not_refused 6 q), λ c. absurd (possible c))),
            record {
              numbered = inv.numbered;
              roomy = inv.roomy;
              known = known_push k laws n t u ls l good comes like;
              undoes = kept_undoes k n (table_read k t) (table_read k u) ls l (kept k t l) s.trials st.copies
                  (sym (undo_read k (kept k t l ∷ []) u) ∙ ap (table_read k) back) inv.undoes;
            },
          ))

    -- questions
    told : (q : Line R S) (a : Answer) → Fits k n t q a → Told k n ls q (answered a)
    told q answer.Holds fits =
        let b = satisfied k laws n t good.sound in
        let follows : Follows k n ls q = λ a small obeyed. fits a small ((good.means a small).1 obeyed) in
        record {
          held = (λ e. follows, λ f. refl);
          ruled_out = (
            λ e. absurd (let z : ◌≡◌ {A = ℕ} 0 1 = cc in omega arith),
            λ c. absurd (c b.0 b.1 ((good.means b.0 b.1).0 b.2) (fits b.0 b.1 b.2)),
          );
          else_open = λ nf nc. absurd (nf follows);
        }
    told q answer.Barred fits =
        let b = satisfied k laws n t good.sound in
        let contrary : Contrary k n ls q = λ a small obeyed. fits a small ((good.means a small).1 obeyed) in
        record {
          held = (
            λ e. absurd (let z : ◌≡◌ {A = ℕ} 0 1 = cc in omega arith),
            λ f. absurd (fits b.0 b.1 b.2 (f b.0 b.1 ((good.means b.0 b.1).0 b.2))),
          );
          ruled_out = (λ e. contrary, λ c. refl);
          else_open = λ nf nc. absurd (nc contrary);
        }
    told q answer.Open fits = record {
      held = (
        λ e. absurd (let z : ◌≡◌ {A = ℕ} 0 1 = cc in omega arith),
        λ f. absurd (fits.0 (λ a small reads. f a small ((good.means a small).0 reads))),
      );
      ruled_out = (
        λ e. absurd (let z : ◌≡◌ {A = ℕ} 0 1 = cc in omega arith),
        λ c. absurd (fits.1 (λ a small reads. c a small ((good.means a small).0 reads))),
      );
      else_open = λ nf nc. refl;
    }

    -- adoptions and retractions, by a slip of this sheet's number
    module _ (slip : ℕ) (ours : slip ≡ number) where
      adopts_well : (trials : List (List (Kept R S))) → s.trials ≡ trials → Well (adopt slip) (adopts s trials)
      adopts_well [] q = (inr (λ f. f ours, inl (shut (ap any_open q), refl)), inv)
      adopts_well (trial ∷ outer) q = (
        inr (λ f. f ours, inr (λ f. f (opened (ap any_open q)), refl)),
        record {
          numbered = inv.numbered;
          roomy = inv.roomy;
          known = inv.known;
          undoes = adopted_undoes k n (table_read k t) ls trial outer st.copies
              (subst (λ es. Undoes k n (table_read k t) ls (map (map (kept_read k)) es) st.copies) q inv.undoes);
        },
      )

      back_stands : (trial : List (Kept R S)) (outer : List (List (Kept R S))) (copies : List (List (Line R S)))
          → Undoes k n (table_read k t) ls (map (map (kept_read k)) (trial ∷ outer)) copies
          → Stands k n number room (sheet_read k (with_table s (undo trial t) outer)) (back_to st copies)
      back_stands trial outer [] u = absurd u
      back_stands trial outer (copy ∷ copies) u = record {
        numbered = inv.numbered;
        roomy = inv.roomy;
        known = subst (λ view. Known k n view copy) (sym (undo_read k trial t)) u.1;
        undoes = subst (λ view. Undoes k n view copy (map (map (kept_read k)) outer) copies) (sym (undo_read k trial t)) u.2;
      }

      retracts_well : (trials : List (List (Kept R S))) → s.trials ≡ trials → Well (retract slip) (retracts s trials)
      retracts_well [] q = (inr (λ f. f ours, inl (shut (ap any_open q), refl)), inv)
      retracts_well (trial ∷ outer) q = (
        inr (λ f. f ours, inr (λ f. f (opened (ap any_open q)), refl)),
        back_stands trial outer st.copies (subst (λ es. Undoes k n (table_read k t) ls (map (map (kept_read k)) es) st.copies) q inv.undoes),
      )

    not_ours : (slip : ℕ) → eqb slip s.number ≡ false → ¬ (slip ≡ number)
    not_ours slip e q = eqb-false _ _ e (q ∙ sym inv.numbered)

    -- the listing of the standing lines means what they mean
    text_says : Means k n ls (listed_text k n ls)
    text_says =
        let known = inv.known.1 in
        let read = text_means k laws worded n few (lines_of k (table_of k n ls)) (listing_on k laws n (table_of k n ls) known.sound) in
        record {
          lines = read.0;
          read = read.1;
          same = λ a small.
              let says = listing_says k laws n (table_of k n ls) known.sound a small in
              (λ o. (known.means a small).0 (says.0 ((read.2 a small).0 o)), λ o. (read.2 a small).1 (says.1 ((known.means a small).1 o)));
        }

    lists_well : (p : Filled) → ¬ (Open st) → Well (listing p) (stays s (lists p (listed_text k n ls)))
    lists_well p closed = cond_both (leb (p.mark + length (listed_text k n ls)) (length p.bytes)) _ _ (λ o. Well (listing p) (stays s o))
        (λ f. (
          inr (
            closed,
            inr (
              λ over. omega (arith, leb-true _ _ f),
              record { put = refl; means = subst (Means k n ls) (sym (added_is p (listed_text k n ls) (leb-true _ _ f))) text_says },
            ),
          ),
          inv,
        ))
        (λ f. (inr (closed, inl (leb-false _ _ f, refl)), inv))

    called_well : (c : Call R S) → Well c (called k s c)
    called_well (enter l) = cond_both (on s (first_of l) && on s (second_of l)) _ _ (Well (enter l))
        (λ e.
        let here : On n l = on_both _ _ e in
        takes_well l here (entered k t l) (entered_comes k laws n t good.sound few l here) (entered_restores k t l)
        (entered_alike k laws (table_of k n ls) t inv.known.0 l))
        (λ e. ((inl (off _ _ e, refl), λ h. absurd (off _ _ e h)), inv))
    called_well (ask x y g) = cond_both (on s x && on s y) _ _ (λ o. Well (ask x y g) (stays s o))
        (λ e.
        let here = on_both x y e in
        (inr (λ f. f here, told (note x y g) (asked k t x y g) (asked_fits k laws n t good.sound x y g here.0 here.1)), inv))
        (λ e. (inl (off _ _ e, refl), inv))
    called_well suppose = cond_both (in_trial s) _ _ (Well suppose)
        (λ e. (inl (opened e, refl), inv))
        (λ e. (
          inr (shut e, ap handed inv.numbered),
          record { numbered = inv.numbered; roomy = inv.roomy; known = inv.known; undoes = (omega arith, inv.known, inv.undoes) },
        ))
    called_well (adopt slip) = cond_both (eqb slip s.number) _ _ (Well (adopt slip))
        (λ e. adopts_well slip (eqb-true _ _ e ∙ inv.numbered) s.trials refl) (λ e. (inl (not_ours slip e, refl), inv))
    called_well (retract slip) = cond_both (eqb slip s.number) _ _ (Well (retract slip))
        (λ e. retracts_well slip (eqb-true _ _ e ∙ inv.numbered) s.trials refl) (λ e. (inl (not_ours slip e, refl), inv))
    called_well (listing p) = cond_both (in_trial s) _ _ (λ o. Well (listing p) (stays s o))
        (λ e. (inl (opened e, refl), inv))
        (λ e.
        let same = listing_alike k laws (table_of k n ls) t inv.known.0 in
        subst (λ text. Well (listing p) (stays s (lists p text))) (sym same) (lists_well p (shut e)))

  step_right : (s s' : State R S) (st : Standing R S) (c : Call R S) (o : Outcome) → Stands k n number room (sheet_read k s) st → Step k s c o s'
      → Right k n number room st c o × Stands k n number room (sheet_read k s') (stands_after st c o)
  step_right s s' st c o inv step =
      subst₂ (λ r view. Right k n number room st c r × Stands k n number room view (stands_after st c r)) (sym step.outcome) (sym step.left)
      (called_well s st inv c)

  all_right : (es : List (Event R S)) (s : State R S) (st : Standing R S) → Stands k n number room (sheet_read k s) st → Succession k s es
      → AllRight k n number room st es
  all_right [] s st inv run = tt
  all_right (e ∷ es) s st inv run =
      let well = step_right s e.left st e.call e.outcome inv run.0 in
      (well.0, all_right es e.left _ well.1 run.1)

  final_stands : (es : List (Event R S)) (s : State R S) (st : Standing R S) → Stands k n number room (sheet_read k s) st → Succession k s es
      → Stands k n number room (sheet_read k (final s es)) (standing st es)
  final_stands [] s st inv run = inv
  final_stands (e ∷ es) s st inv run = final_stands es e.left _ (step_right s e.left st e.call e.outcome inv run.0).1 run.1

-- one call more at the end of a succession
module _ {K R S : Type 0} (k : Ghosts K R S) where
  run_more : (es : List (Event R S)) (s : State R S) (e : Event R S) → Succession k s es → Step k (final s es) e.call e.outcome e.left
      → Succession k s (es ++ (e ∷ []))
  run_more [] s e run step = (step, tt)
  run_more (f ∷ es) s e run step = (run.0, run_more es f.left e run.1 step)

module _ {R S : Type 0} where
  final_more : (es : List (Event R S)) (s : State R S) (e : Event R S) → final s (es ++ (e ∷ [])) ≡ e.left
  final_more [] s e = refl
  final_more (f ∷ es) s e = final_more es f.left e

  standing_more : (es : List (Event R S)) (st : Standing R S) (e : Event R S)
      → standing st (es ++ (e ∷ [])) ≡ stands_after (standing st es) e.call e.outcome
  standing_more [] st e = refl
  standing_more (f ∷ es) st e = standing_more es (stands_after st f.call f.outcome) e

module _ {K R S : Type 0} (k : Ghosts K R S) (laws : Lawful k) (worded : Worded k) where
  begins : (n number room : ℕ) (s : State R S) → sheet_read k s ≡ sheet_read k (new_sheet k number n room)
      → Stands k n number room (sheet_read k s) nothing_stands
  begins n number room s new = subst (λ view. Stands k n number room view nothing_stands) (sym new) (new_stands k laws n number room)

  reached_stands : (n number room : ℕ) (s : State R S) (st : Standing R S) → Reached k n number room s st → Stands k n number room (sheet_read k s) st
  reached_stands n number room s st r =
      subst₂ (λ z w. Stands k n number room (sheet_read k z) w) r.left r.stood
      (final_stands k laws worded n number room r.few r.events r.start nothing_stands (begins n number room r.start r.new) r.ran)

  -- a new sheet is reached, by no call
  pub reached_new : (n number room : ℕ) (s : State R S) → n ≤ 256 → sheet_read k s ≡ sheet_read k (new_sheet k number n room)
      → Reached k n number room s nothing_stands
  reached_new n number room s few new = record { few = few; start = s; new = new; events = []; ran = tt; left = refl; stood = refl }

  pub whatever_follows : (n number room : ℕ) (s : State R S) → n ≤ 256 → sheet_read k s ≡ sheet_read k (new_sheet k number n room)
      → WhateverFollows k n number room s
  whatever_follows n number room s few new es run = all_right k laws worded n number room few es s nothing_stands (begins n number room s new) run

  right_here : (s s' : State R S) (c : Call R S) (o : Outcome) → Step k s c o s' → RightHere k s c o s'
  right_here s s' c o step n number room st r =
      let e : Event R S = record { call = c; outcome = o; left = s' } in (
        (step_right k laws worded n number room r.few s s' st c o (reached_stands n number room s st r) step).0,
        record {
          few = r.few;
          start = r.start;
          new = r.new;
          events = r.events ++ (e ∷ []);
          ran = run_more k r.events r.start e r.ran (subst (λ z. Step k z c o s') (sym r.left) step);
          left = final_more r.events r.start e;
          stood = standing_more r.events nothing_stands e ∙ ap (λ w. stands_after w c o) r.stood;
        },
      )

  pub makes : (s s' : State R S) (c : Call R S) (o : Outcome) → Step k s c o s' → Makes k s c o s'
  makes s s' c o step = record { step = step; right = right_here s s' c o step }

  -- the table of a reached sheet reads as that of the standing lines, and is sound
  pub reached_read : (n number room : ℕ) (s : State R S) (st : Standing R S) → Reached k n number room s st
      → table_read k s.table ≡ table_read k (table_of k n st.lines)
  reached_read n number room s st r = (reached_stands n number room s st r).known.0

  pub reached_sound : (n number room : ℕ) (s : State R S) (st : Standing R S) → Reached k n number room s st → Sound k n s.table
  reached_sound n number room s st r = (good k laws worded n number room r.few s st (reached_stands n number room s st r)).sound

  pub bounded : (s : State R S) → Bounded k s (bound_of k (length s.table))
  bounded s n number room st r =
      let sound = reached_sound n number room s st r in
      subst (λ m. length (listing_of k s.table) ≤ bound_of k m) (sym sound.size)
      (listing_bound k worded n r.few s.table sound.size (λ x h. (walked_ends k laws n s.table sound x h).on))
