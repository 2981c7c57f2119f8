-- The words of sets of none, one or all of the numbers below m, of which there are two at least.
use Rattle.std.proofs.Common.{◌≡◌, ℕ, ◌%◌, ◌<◌, ◌≤◌, Bool, true, false, cond, eqb, List, ◌∷◌, length, get_or, is_some, Some, None, codes, Option, sym, refl, ap, ◌∙◌, mod-eq_of_lt, arith}
use Rattle.std.specs.Option.{option_map}
use Rattle.std.specs.Str.{bytes_eq}
use Rattle.std.proofs.lemmas.Slice.Eq.{bytes_eq-Decides}
use Rattle.std.proofs.lemmas.Bool.{eq-eqb, eqb-true, both_ways, cond_both}
use Rattle.words.specs.Plain.{all_plain}
use Rattle.words.proofs.Reading.{unread}
use Rattle.picks.specs.Picks.{pick_has, pick_label, pick_read, pick_labelled}
use Rattle.picks.specs.declared.Pick.{Pick}
use Rattle.picks.specs.declared.Pick.TheVariants.{Nothing, One, Any}
use Rattle.picks.proofs.PickLaws.{residue_low, not_both}

-- how the values below m are written and read: each has a word of its own, no longer than wide, that begins below the letters;
-- and wide has room for `none`
pub record Spelling (m wide : ℕ) (spell : ℕ → List ℕ) (named : List ℕ → Option ℕ) : Type 0 where
  pub two : 2 ≤ m
  pub room : 4 ≤ wide
  pub front : (v : ℕ) → v < m → get_or (spell v) 0 0 < 58
  pub some : (v : ℕ) → v < m → 0 < length (spell v)
  pub short : (v : ℕ) → v < m → length (spell v) ≤ wide
  pub plain : (v : ℕ) → v < m → all_plain (spell v) ≡ true
  pub written : (v : ℕ) → v < m → named (spell v) ≡ Some v
  pub read : (field : List ℕ) (v : ℕ) → named field ≡ Some v → (v < m) × (spell v ≡ field)

module _ {m wide : ℕ} {spell : ℕ → List ℕ} {named : List ℕ → Option ℕ} (spelling : Spelling m wide spell named) where
  low : (a : ℕ) → a % m < m
  low = residue_low m spelling.two

  -- values are apart where their words are
  apart : (a b : ℕ) → a < m → b < m → spell a ≡ spell b → a ≡ b
  apart a b p q e = let x = spelling.written a p in let y = spelling.written b q in cc

  -- no value has a word that begins with a letter
  no_letter : {X : Type 0} (a c : ℕ) (cs : List ℕ) → spell (a % m) ≡ c ∷ cs → 97 ≤ c → X
  no_letter a c cs e high = let f = spelling.front (a % m) (low a) in let z : get_or (spell (a % m)) 0 0 ≡ c = ap (λ w. get_or w 0 0) e in absurd (omega arith)

  pub pick_label_tells : (s t : Pick) → pick_label m spell s ≡ pick_label m spell t → (v : ℕ) → pick_has m s v ≡ pick_has m t v
  pick_label_tells Nothing Nothing e v = refl
  pick_label_tells Nothing (One b) e v = no_letter b _ _ (sym e) (omega arith)
  pick_label_tells Nothing Any e v = let z : ◌≡◌ {A = ℕ} 110 97 = cc in absurd (omega arith)
  pick_label_tells (One a) Nothing e v = no_letter a _ _ e (omega arith)
  pick_label_tells (One a) (One b) e v = ap (λ n. eqb n v) (apart _ _ (low a) (low b) e)
  pick_label_tells (One a) Any e v = no_letter a _ _ e (omega arith)
  pick_label_tells Any Nothing e v = let z : ◌≡◌ {A = ℕ} 97 110 = cc in absurd (omega arith)
  pick_label_tells Any (One b) e v = no_letter b _ _ (sym e) (omega arith)
  pick_label_tells Any Any e v = refl

  -- one of the sets has a member
  pub pick_label_told : (s t : Pick) (w : ℕ) → pick_has m s w ≡ true → ((v : ℕ) → v < m → pick_has m s v ≡ pick_has m t v) → pick_label m spell s ≡ pick_label m spell t
  pick_label_told Nothing t w h e = absurd (both_ways false refl h)
  pick_label_told (One a) Nothing w h e = absurd (both_ways false refl (sym (e (a % m) (low a)) ∙ eq-eqb _ _ refl))
  pick_label_told (One a) (One b) w h e = ap spell (sym (eqb-true _ _ (sym (e (a % m) (low a)) ∙ eq-eqb _ _ refl)))
  pick_label_told (One a) Any w h e = absurd (not_both (a % m) (e 0 (omega (arith, spelling.two))) (e 1 (omega (arith, spelling.two))))
  pick_label_told Any Nothing w h e = absurd (both_ways false refl (sym (e 0 (omega (arith, spelling.two)))))
  pick_label_told Any (One b) w h e = absurd (not_both (b % m) (sym (e 0 (omega (arith, spelling.two)))) (sym (e 1 (omega (arith, spelling.two)))))
  pick_label_told Any Any w h e = refl

  pub pick_label_length : (s : Pick) → (0 < length (pick_label m spell s)) × (length (pick_label m spell s) ≤ wide)
  pick_label_length Nothing = (omega arith, spelling.room)
  pick_label_length (One a) = (spelling.some _ (low a), spelling.short _ (low a))
  pick_label_length Any = (omega arith, omega (arith, spelling.room))

  pub pick_label_plain : (s : Pick) → all_plain (pick_label m spell s) ≡ true
  pick_label_plain Nothing = refl
  pick_label_plain (One a) = spelling.plain _ (low a)
  pick_label_plain Any = refl

  pub pick_labelled_label : (field : List ℕ) (s : Pick) → pick_labelled named field ≡ Some s → pick_label m spell s ≡ field
  pick_labelled_label field s =
      cond_both (bytes_eq field (codes "none")) _ _ Reads (λ is. told Nothing (sym ((bytes_eq-Decides field _).0 is))) (λ _.
      cond_both (bytes_eq field (codes "any")) _ _ Reads (λ is. told Any (sym ((bytes_eq-Decides field _).0 is))) (λ _.
      value (named field) refl))
    where
      Reads : Option Pick → Type 0
      Reads o = o ≡ Some s → pick_label m spell s ≡ field

      told : (t : Pick) → pick_label m spell t ≡ field → Reads (Some t)
      told t is e = let same : t ≡ s = cc in ap (pick_label m spell) (sym same) ∙ is

      value : (v : Option ℕ) → named field ≡ v → Reads (option_map One v)
      value None is e = unread e
      value (Some v) is e =
          let r = spelling.read field v is in
          told (One v) (ap spell (mod-eq_of_lt r.0) ∙ r.1) e

  pub pick_label_labelled : (s : Pick) → is_some (pick_labelled named (pick_label m spell s)) ≡ true
  pick_label_labelled Nothing = refl
  pick_label_labelled (One a) =
      let word = spell (a % m) in
      ap (λ o. is_some (pick_read word o)) (spelling.written _ (low a)) ∙ some_read (bytes_eq word (codes "none")) (bytes_eq word (codes "any")) (a % m)
    where
      some_read : (b c : Bool) (v : ℕ) → is_some (cond b (Some Nothing) (cond c (Some Any) (Some (One v)))) ≡ true
      some_read true c v = refl
      some_read false true v = refl
      some_read false false v = refl
  pick_label_labelled Any = refl
