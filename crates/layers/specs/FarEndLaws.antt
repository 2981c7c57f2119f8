-- The laws of the far-end layer that a search does not find, from those of the kind below that each takes.
use Rattle.std.specs.Prelude.{◌≡◌, ℕ, ◌<◌}
use Rattle.std.proofs.Common.{sym, ap, ◌∙◌}
use Rattle.kind.proofs.Inverses.{inverses_alike}

-- two relations that move every value below the span alike
abbrev pub MovesAlike : {R : Type 0} → ℕ → (R → ℕ → ℕ) → R → R → Type 0
MovesAlike span act g h = (v : ℕ) → v < span → act g v ≡ act h v

module _ {R : Type 0} (span : ℕ) (act : R → ℕ → ℕ) (inv : R → R) (closed : (g : R) (v : ℕ) → v < span → act g v < span) (inv_left : (g : R) (v : ℕ) → v < span → act (inv g) (act g v) ≡ v) where
  -- the inverse takes the value back
  back : (g : R) (u v : ℕ) → u < span → act g u ≡ v → act (inv g) v ≡ u
  back g u v low e = ap (act (inv g)) (sym e) ∙ inv_left g u low

  pub far_unit : (unit : R) → ((v : ℕ) → v < span → act unit v ≡ v) → (v : ℕ) → v < span → act (inv unit) v ≡ v
  far_unit unit unit_acts v low = back unit v v low (unit_acts v low)

  module _ (inv_right : (g : R) (v : ℕ) → v < span → act g (act (inv g) v) ≡ v) where
    -- an inverse turns a composition round
    pub far_order : (comp : R → R → R) → ((g h : R) (v : ℕ) → v < span → act (comp g h) v ≡ act g (act h v)) → (g h : R) (v : ℕ) → v < span → act (inv (comp h g)) v ≡ act (inv g) (act (inv h) v)
    far_order comp comp_acts g h v low =
        let below = closed (inv h) v low in
        let deep = closed (inv g) _ below in
        back (comp h g) _ v deep (comp_acts h g _ deep ∙ ap (act h) (inv_right g _ below) ∙ inv_right h v low)

    pub far_tells : {W : Type 0} (word : R → W) → ((g h : R) → word g ≡ word h → MovesAlike span act g h) → (g h : R) → word g ≡ word h → MovesAlike span act (inv g) (inv h)
    far_tells word word_tells g h e = inverses_alike span act inv closed inv_left inv_right g h (word_tells g h e)

    pub far_told : {W : Type 0} (word : R → W) → ((g h : R) → MovesAlike span act g h → word g ≡ word h) → (g h : R) → MovesAlike span act (inv g) (inv h) → word g ≡ word h
    far_told word word_told g h e =
        word_told g h (λ v low.
        let high = closed h v low in
        ap (act g) (sym (e _ high ∙ inv_left h v low)) ∙ inv_right g _ high)
