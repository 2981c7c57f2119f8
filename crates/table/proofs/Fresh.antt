-- A table made new, point by point.
use Rattle.std.proofs.Common.{◌≡◌, ℕ, zero, suc, ◌+◌, ◌<◌, min, List, [], ◌∷◌, ◌++◌, length, length-take, take, drop, set, sym, refl, ap, ◌∙◌, ⊎_elim, append_assoc, add-zero, zero-add, arith}
use Rattle.std.proofs.lemmas.List.{append-nil, set_at, take_all, take_at, drop_more, drop_all, drop_at}
use Rattle.std.proofs.lemmas.Bool.{cases_lt}
use Rattle.kind.specs.declared.Kind.{Ghosts}
use Rattle.table.specs.declared.node.Node.{Node}
use Rattle.table.specs.Table.{fresh, fresh_from}

module _ {K R S : Type 0} (k : Ghosts K R S) where
  pub fresh_length : (x n : ℕ) → length (fresh_from k x n) ≡ n
  fresh_length x zero = refl
  fresh_length x (suc n) = ap suc (fresh_length (suc x) n)

  fresh_more : (x n : ℕ) → fresh_from k x (n + 1) ≡ fresh_from k x n ++ (fresh k (x + n) ∷ [])
  fresh_more x zero = ap (λ y. fresh k y ∷ []) (sym (add-zero x))
  fresh_more x (suc n) =
      let e : suc n + 1 ≡ suc (n + 1) = omega arith in
      let f : suc x + n ≡ x + suc n = omega arith in
      ap (fresh_from k x) e ∙ ap (λ ys. fresh k x ∷ ys) (fresh_more (suc x) n ∙ ap (λ y. fresh_from k (suc x) n ++ (fresh k y ∷ [])) f)

  -- one point more
  pub renewed_more : (t u : List (Node R S)) (i : ℕ) (d : Node R S) → u ≡ fresh_from k 0 i ++ drop i t → i < length t → d ≡ fresh k i → set u i d ≡ fresh_from k 0 (i + 1) ++ drop (i + 1) t
  renewed_more t u i d e low is =
      (λ j. set (e j) i (is j)) ∙ ap (λ r. set (fresh_from k 0 i ++ r) i (fresh k i)) (drop_more t i (fresh k i) low)
      ∙ set_at (fresh_from k 0 i) _ (drop (i + 1) t) (fresh k i) i (fresh_length 0 i)
      ∙ sym (append_assoc (fresh_from k 0 i) (fresh k i ∷ []) (drop (i + 1) t))
      ∙ ap (λ ys. ys ++ drop (i + 1) t) (ap (λ y. fresh_from k 0 i ++ (fresh k y ∷ [])) (sym (zero-add i)) ∙ sym (fresh_more 0 i))

  -- the first n points of a table made new
  module _ (n : ℕ) (t : List (Node R S)) where
    made : List (Node R S)
    made = fresh_from k 0 (min (length t) n)

    made_length : length made ≡ min (length t) n
    unfolding made
    made_length = fresh_length 0 (min (length t) n)

    pub renewed_all : (u : List (Node R S)) (i e : ℕ) → u ≡ fresh_from k 0 i ++ drop i (take e t) → i ≡ e → e ≡ min (length t) n → u ++ drop e t ≡ fresh_from k 0 (min (length t) n) ++ drop n t
    renewed_all u i e is same most =
        let none : drop i (take e t) ≡ [] = drop_all i (take e t) (simp length-take (omega arith)) in
        ap (λ v. v ++ drop e t) (is ∙ ap (λ r. fresh_from k 0 i ++ r) none ∙ append-nil (fresh_from k 0 i))
        ∙ ap (λ m. fresh_from k 0 m ++ drop e t) (same ∙ most)
        ∙ ap (λ r. fresh_from k 0 (min (length t) n) ++ r)
        (⊎_elim (λ h. drop_all e t (omega arith) ∙ sym (drop_all n t (omega arith))) (λ h. ap (λ m. drop m t) (let q : e ≡ n = omega arith in q)) (cases_lt (length t) n))

    pub fresh_front : take n (fresh_from k 0 (min (length t) n) ++ drop n t) ≡ fresh_from k 0 (min (length t) n)
    unfolding made
    fresh_front =
        ⊎_elim
        (λ h. ap (λ r. take n (made ++ r)) (drop_all n t (omega arith)) ∙ ap (take n) (append-nil made) ∙ take_all n made (omega (arith, made_length)))
        (λ h. take_at made _ n (made_length ∙ omega arith))
        (cases_lt (length t) n)

    pub fresh_past : drop n (fresh_from k 0 (min (length t) n) ++ drop n t) ≡ drop n t
    unfolding made
    fresh_past =
        ⊎_elim
        (λ h. let none = drop_all n t (omega arith) in ap (λ r. drop n (made ++ r)) none ∙ ap (drop n) (append-nil made) ∙ drop_all n made (omega (arith, made_length)) ∙ sym none)
        (λ h. drop_at made _ n (made_length ∙ omega arith))
        (cases_lt (length t) n)
