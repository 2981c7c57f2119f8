-- Sheets that read alike answer alike and are left alike.
use Rattle.std.proofs.Common.{◌≡◌, ℕ, ◌+◌, cond, ◌&&◌, eqb, ltb, leb, List, [], ◌∷◌, map, set, Some, None, Option, sym, refl, ap, ◌∙◌}
use mathlib.Core.List.{map-append}
use lib.ListN.{length-map}
use lib.Seq.{map-set}
use Rattle.kind.specs.declared.Kind.{Ghosts}
use Rattle.kind.proofs.Lawful.{Lawful}
use Rattle.table.specs.declared.node.Node.{Node}
use Rattle.table.specs.Table.{at}
use Rattle.table.specs.Walk.{walked}
use Rattle.table.specs.Note.{between}
use Rattle.table.specs.Ask.{asked_at, asked}
use Rattle.table.specs.Words.{node_read, table_read}
use Rattle.table.proofs.Alike.{cond_two, combined_alike, node_alike, asked_alike}
use Rattle.rules.specs.Lines.{Line, first_of, second_of}
use Rattle.rules.specs.State.{Kept, State, on, any_open, in_trial, lines_kept, full, with_table}
use Rattle.rules.specs.Trials.{kept, keep, undo}
use Rattle.rules.specs.Words.{kept_read, sheet_read}
use Rattle.rules.specs.Calls.{Call, enter, ask, suppose, adopt, retract, listing, Outcome, accepted, answered, handed, refused}
use Rattle.rules.specs.Calls.{Taken, stays, adopts, retracts, lists, takes_in, called}
use Rattle.rules.specs.Reached.{Step}
use Rattle.rules.proofs.Alike.{Like, LikeRoutes, length_alike, walked_alike, entered_alike, listing_alike}

module _ {K R S : Type 0} (k : Ghosts K R S) where
  abbrev trials_read : List (List (Kept R S)) → List (List (Kept (List ℕ) (List ℕ)))
  trials_read ts = map (map (kept_read k)) ts

  -- what came of a call, read through words
  abbrev taken_read : Taken R S → Taken (List ℕ) (List ℕ)
  taken_read v = record { outcome = v.outcome; left = sheet_read k v.left }

  abbrev LikeTaken : Taken R S → Taken R S → Type 0
  LikeTaken v w = taken_read v ≡ taken_read w

  -- taking back, keeping, adopting and retracting come to the same whether the sheet is read before or after
  pub undo_read : (es : List (Kept R S)) (t : List (Node R S)) → table_read k (undo es t) ≡ undo (map (kept_read k) es) (table_read k t)
  undo_read [] t = refl
  undo_read (e ∷ es) t =
      undo_read es _ ∙ ap (undo (map (kept_read k) es))
      (map-set (node_read k) _ e.first e.first_was
      ∙ ap (λ u. set u e.first (node_read k e.first_was)) (map-set (node_read k) t e.second e.second_was))

  open_read : (ts : List (List (Kept R S))) → any_open (trials_read ts) ≡ any_open ts
  open_read [] = refl
  open_read (trial ∷ outer) = refl

  kept_lines_read : (ts : List (List (Kept R S))) → lines_kept (trials_read ts) ≡ lines_kept ts
  kept_lines_read [] = refl
  kept_lines_read (trial ∷ outer) = λ i. length-map trial (kept_read k) i + kept_lines_read outer i

  keep_read : (e : Kept R S) (ts : List (List (Kept R S))) → trials_read (keep e ts) ≡ keep (kept_read k e) (trials_read ts)
  keep_read e [] = refl
  keep_read e (trial ∷ outer) = refl

  adopts_read : (s : State R S) (ts : List (List (Kept R S))) → taken_read (adopts s ts) ≡ adopts (sheet_read k s) (trials_read ts)
  adopts_read s [] = refl
  adopts_read s (trial ∷ []) = refl
  adopts_read s (trial ∷ outer ∷ rest) =
      ap (λ t. record { outcome = accepted; left = with_table (sheet_read k s) (table_read k s.table) (t ∷ trials_read rest) })
      (map-append (kept_read k) trial outer)

  retracts_read : (s : State R S) (ts : List (List (Kept R S))) → taken_read (retracts s ts) ≡ retracts (sheet_read k s) (trials_read ts)
  retracts_read s [] = refl
  retracts_read s (trial ∷ outer) =
      λ i. record { outcome = accepted; left = with_table (sheet_read k s) (undo_read trial s.table i) (trials_read outer) }

  module _ (laws : Lawful k) (s u : State R S) (alike : sheet_read k u ≡ sheet_read k s) where
    tables : table_read k u.table ≡ table_read k s.table
    tables i = (alike i).table

    walks : (x : ℕ) → LikeRoutes k laws (walked k u.table x) (walked k s.table x)
    walks x = walked_alike k laws s.table u.table tables x

    on_alike : (x : ℕ) → on u x ≡ on s x
    on_alike x = ap (ltb x) (length_alike k laws s.table u.table tables)

    trial_alike : in_trial u ≡ in_trial s
    trial_alike = sym (open_read u.trials) ∙ ap in_trial alike ∙ open_read s.trials

    full_alike : full u ≡ full s
    full_alike =
        let lines = sym (kept_lines_read u.trials) ∙ ap (λ z. lines_kept z.trials) alike ∙ kept_lines_read s.trials in
        λ i. trial_alike i && leb (alike i).room (lines i)

    -- the node of the reference of x
    end_alike : (x : ℕ)
        → node_read k (at k u.table (walked k u.table x).reference) ≡ node_read k (at k s.table (walked k s.table x).reference)
    end_alike x =
        ap (λ r. node_read k (at k u.table r)) (walks x).0 ∙ node_alike k laws s.table u.table tables _

    kept_alike : (l : Line R S) → kept_read k (kept k u.table l) ≡ kept_read k (kept k s.table l)
    kept_alike l i = record {
      first = (walks (first_of l)).0 i;
      first_was = end_alike (first_of l) i;
      second = (walks (second_of l)).0 i;
      second_was = end_alike (second_of l) i;
    }

    answer_alike : (x y : ℕ) (g : R) → asked k u.table x y g ≡ asked k s.table x y g
    answer_alike x y g =
        let w = walks x in
        let z = walks y in
        (λ i. asked_at k u.table (w.0 i) (z.0 i) (between k u.table x y g))
        ∙ asked_alike k laws s.table u.table tables _ _ _ _ (combined_alike k laws _ _ _ _ _ _ w.1 (λ v low. refl) z.1)

    stays_alike : (o p : Outcome) → o ≡ p → LikeTaken (stays u o) (stays s p)
    stays_alike o p e i = record { outcome = e i; left = alike i }

    takes_alike : (l : Line R S) (v t : Option (List (Node R S))) → Like k laws v t → LikeTaken (takes_in k u l v) (takes_in k s l t)
    takes_alike l None None p = stays_alike _ _ refl
    takes_alike l None (Some t) p = absurd p
    takes_alike l (Some v) None p = absurd p
    takes_alike l (Some v) (Some t) p =
        let trials = keep_read _ u.trials ∙ (λ i. keep (kept_alike l i) (alike i).trials) ∙ sym (keep_read _ s.trials) in
        cond_two LikeTaken (full s) (full u) _ _ _ _ full_alike (λ e. stays_alike _ _ refl)
        (λ e i. record { outcome = accepted; left = with_table (alike i) (p i) (trials i) })

    taken_alike : (c : Call R S) → LikeTaken (called k u c) (called k s c)
    taken_alike (enter l) =
        cond_two LikeTaken _ _ _ _ _ _ (λ i. on_alike (first_of l) i && on_alike (second_of l) i)
        (λ e. takes_alike l _ _ (entered_alike k laws s.table u.table tables l)) (λ e. stays_alike _ _ refl)
    taken_alike (ask x y g) =
        stays_alike _ _ (λ i. cond (on_alike x i && on_alike y i) (answered (answer_alike x y g i)) (refused 5))
    taken_alike suppose =
        cond_two LikeTaken (in_trial s) (in_trial u) _ _ _ _ trial_alike (λ e. stays_alike _ _ refl)
        (λ e i. record { outcome = handed (alike i).number; left = with_table (alike i) (alike i).table ([] ∷ (alike i).trials) })
    taken_alike (adopt slip) =
        cond_two LikeTaken (eqb slip s.number) (eqb slip u.number) _ _ _ _ (λ i. eqb slip (alike i).number)
        (λ e. adopts_read u u.trials ∙ ap (λ z. adopts z z.trials) alike ∙ sym (adopts_read s s.trials)) (λ e. stays_alike _ _ refl)
    taken_alike (retract slip) =
        cond_two LikeTaken (eqb slip s.number) (eqb slip u.number) _ _ _ _ (λ i. eqb slip (alike i).number)
        (λ e. retracts_read u u.trials ∙ ap (λ z. retracts z z.trials) alike ∙ sym (retracts_read s s.trials)) (λ e. stays_alike _ _ refl)
    taken_alike (listing p) =
        stays_alike _ _ (λ i. cond (trial_alike i) (refused 8) (lists p (listing_alike k laws s.table u.table tables i)))

    pub called_alike : (c : Call R S)
        → ((called k u c).outcome ≡ (called k s c).outcome) × (sheet_read k (called k u c).left ≡ sheet_read k (called k s c).left)
    called_alike c = let e = taken_alike c in (ap (λ v. v.outcome) e, ap (λ v. v.left) e)

    pub step_alike : (c : Call R S) (o : Outcome) (v : State R S) → Step k u c o v → Step k s c o v
    step_alike c o v step = let e = called_alike c in record { outcome = step.outcome ∙ e.0; left = step.left ∙ e.1 }
