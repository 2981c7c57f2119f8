-- Whether a byte stands in a text.
use Rattle.std.specs.Prelude.{◌≡◌, ℕ, ◌+◌, ◌<◌, ◌≤◌, Bool, true, false, ◌||◌, List, ◌++◌, length, drop, ◌==◌, ◌≢◌, slice_index}
use Rattle.std.proofs.Common.{ap, ◌∙◌}
use Rattle.std.proofs.Math.Bool.{or-false}
use Rattle.std.proofs.lemmas.List.{at_drop_more, at_drop_all}
use Rattle.std.proofs.lemmas.List.Folds.{list_any-append}
use Rattle.std.proofs.lemmas.Bool.{eq-eqb, ne_eqb}
use Rattle.conductors.specs.OrderWords.{stands}

pub or_none : (b : Bool) → (b || false) ≡ b
or_none b = or-false b

pub stands_append : (b : ℕ) (xs ys : List ℕ) → stands b (xs ++ ys) ≡ (stands b xs || stands b ys)
stands_append b xs ys = list_any-append (λ c. c == b) xs ys

module _ (b : ℕ) (s : List ℕ) (i : ℕ) where
  pub stands_here : i < length s → slice_index s i ≡ b → stands b (drop i s) ≡ true
  stands_here h e = at_drop_more (stands b) s i 0 h ∙ ap (λ t. t || stands b (drop (i + 1) s)) (eq-eqb (slice_index s i) b e)

  pub stands_later : i < length s → (slice_index s i ≢ b) → stands b (drop i s) ≡ stands b (drop (i + 1) s)
  stands_later h n = at_drop_more (stands b) s i 0 h ∙ ap (λ t. t || stands b (drop (i + 1) s)) (ne_eqb (slice_index s i) b n)

  pub stands_nowhere : length s ≤ i → stands b (drop i s) ≡ false
  stands_nowhere h = at_drop_all (stands b) s i h
