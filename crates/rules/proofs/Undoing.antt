-- What the log keeps of an accepted line puts the table back.
use Rattle.std.proofs.Common.{◌≡◌, ℕ, eqb, leb, List, set, Some, None, Option, sym, ap, ◌∙◌, set-set}
use lib.Seq.{set_comm, set-get_or}
use Rattle.std.proofs.lemmas.Bool.{eqb-true, eqb-false, cond_both}
use Rattle.kind.specs.declared.Kind.{Ghosts}
use Rattle.table.specs.declared.node.Node.{Node}
use Rattle.table.specs.Table.{fresh, at}
use Rattle.table.specs.Note.{empty, meeting}
use Rattle.table.specs.See.{narrowing}
use Rattle.rules.specs.Lines.{Line, note, see, entered}
use Rattle.rules.specs.Trials.{kept, put_back}

module _ {K R S : Type 0} (k : Ghosts K R S) (t : List (Node R S)) where
  same_put : (r : ℕ) → set t r (at k t r) ≡ t
  same_put r = set-get_or t r (fresh k r)

  -- the nodes of r1 and r2 are put back, the second first
  abbrev both_back : ℕ → ℕ → List (Node R S) → List (Node R S)
  both_back r1 r2 u = set (set u r2 (at k t r2)) r1 (at k t r1)

  one_restores : (r1 r2 : ℕ) (d : Node R S) → r1 ≡ r2 → both_back r1 r2 (set t r1 d) ≡ t
  one_restores r1 r2 d e =
      ap (λ r. both_back r1 r (set t r1 d)) (sym e) ∙ ap (λ u. set u r1 (at k t r1)) (set-set t r1 d (at k t r1) ∙ same_put r1) ∙ same_put r1

  -- whichever of the two was written last
  first_last : (r1 r2 : ℕ) (d e : Node R S) → ¬ (r1 ≡ r2) → both_back r1 r2 (set (set t r2 d) r1 e) ≡ t
  first_last r1 r2 d e apart =
      ap (λ u. set u r1 (at k t r1)) (set_comm (set t r2 d) r1 r2 e (at k t r2) apart) ∙ set-set _ r1 e (at k t r1)
      ∙ ap (λ u. set u r1 (at k t r1)) (set-set t r2 d (at k t r2) ∙ same_put r2) ∙ same_put r1

  second_last : (r1 r2 : ℕ) (d e : Node R S) → ¬ (r1 ≡ r2) → both_back r1 r2 (set (set t r1 d) r2 e) ≡ t
  second_last r1 r2 d e apart =
      ap (λ u. set u r1 (at k t r1)) (set-set (set t r1 d) r2 e (at k t r2) ∙ set_comm t r1 r2 d (at k t r2) apart) ∙ set-set _ r1 d (at k t r1)
      ∙ ap (λ u. set u r1 (at k t r1)) (same_put r2) ∙ same_put r1

  abbrev pub Restored : Line R S → Option (List (Node R S)) → Type 0
  Restored l None = Unit {0}
  Restored l (Some u) = put_back (kept k t l) u ≡ t

  pub entered_restores : (l : Line R S) → Restored l (entered k t l)
  entered_restores (note x y g) =
      let r1 : ℕ = (meeting k t x y g).first in
      let r2 : ℕ = (meeting k t x y g).second in
      cond_both (empty k (meeting k t x y g).left) None (Some _) (Restored (note x y g)) (λ e. tt)
      (λ e. cond_both (eqb r1 r2) _ _ (λ u. both_back r1 r2 u ≡ t)
      (λ f. one_restores r1 r2 _ (eqb-true _ _ f))
      (λ f. cond_both (leb (at k t r2).rank (at k t r1).rank) _ _ (λ u. both_back r1 r2 u ≡ t)
      (λ q. first_last r1 r2 _ _ (eqb-false _ _ f)) (λ q. second_last r1 r2 _ _ (eqb-false _ _ f))))
  entered_restores (see x s) =
      let r : ℕ = (narrowing k t x s).reference in
      cond_both (empty k (narrowing k t x s).left) None (Some _) (Restored (see x s)) (λ e. tt) (λ e. one_restores r r _ (λ i. r))
