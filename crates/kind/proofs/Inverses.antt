-- Inverses of relations that move every value alike, from the three laws on which that hangs.
use Rattle.std.proofs.Common.{◌≡◌, ℕ, ◌<◌, sym, ap, ◌∙◌}

module _ {R : Type 0} (span : ℕ) (act : R → ℕ → ℕ) (inv : R → R) (closed : (g : R) (v : ℕ) → v < span → act g v < span) (inv_left : (g : R) (v : ℕ) → v < span → act (inv g) (act g v) ≡ v) (inv_right : (g : R) (v : ℕ) → v < span → act g (act (inv g) v) ≡ v) where
  pub inverses_alike : (g h : R) → ((v : ℕ) → v < span → act g v ≡ act h v) → (v : ℕ) → v < span → act (inv g) v ≡ act (inv h) v
  inverses_alike g h p v low =
      let w = act (inv g) v in
      let w_low = closed (inv g) v low in
      sym (inv_left h w w_low) ∙ ap (act (inv h)) (sym (p w w_low) ∙ inv_right g v low)
