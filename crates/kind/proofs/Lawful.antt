-- The laws of a kind that lemmas over every kind take, as one record: all but those on the bytes of words and on reading,
-- which are a record of their own.
-- Only the bridges from the trait's own record of its laws name how the toolchain holds them.
use Rattle.std.proofs.Common.{◌≡◌, ℕ, ◌<◌, ◌≤◌, true, ◌&&◌, eqb, List, length, is_some, Some}
use Rattle.words.specs.Plain.{all_plain}
use Rattle.std.specs.declared.clone.Clone.{Ghosts as CloneGhosts}
use Rattle.kind.specs.declared.Kind.{Ghosts}
use Rattle.kind.specs.contracts.Kind.TheBound.{Met}
use Rattle.kind.specs.Tally.{members, Tallied}
use Rattle.kind.specs.Same.{SameMoves, SameMembers}
use seplogic.Ra.Ura.{Ura}
use prog.Model.{Model}
use prog.Routine.{Env}
use types.Logic.{Logic}
use contract.Running.{Running}
use denote.RattleType.{RattleType}
use mir.Syntax.{Dict}

pub record Lawful {K R S : Type 0} (k : Ghosts K R S) : Type 0 where
  pub positive : 0 < k.span
  pub closed : (g : R) (v : ℕ) → v < k.span → k.act g v < k.span
  pub unit_acts : (v : ℕ) → v < k.span → k.act k.unit v ≡ v
  pub comp_acts : (g h : R) (v : ℕ) → v < k.span → k.act (k.comp g h) v ≡ k.act g (k.act h v)
  pub inv_left : (g : R) (v : ℕ) → v < k.span → k.act (k.inv g) (k.act g v) ≡ v
  pub inv_right : (g : R) (v : ℕ) → v < k.span → k.act g (k.act (k.inv g) v) ≡ v
  pub full_has : (v : ℕ) → v < k.span → k.has k.full v ≡ true
  pub meet_has : (s t : S) (v : ℕ) → v < k.span → k.has (k.meet s t) v ≡ (k.has s v && k.has t v)
  pub shift_has : (g : R) (s : S) (v : ℕ) → v < k.span → k.has (k.shift g s) v ≡ k.has s (k.act (k.inv g) v)
  pub fixed_has : (g : R) (v : ℕ) → v < k.span → k.has (k.fixed g) v ≡ eqb (k.act g v) v
  pub inside_all : (s t : S) → k.inside s t ≡ true → (v : ℕ) → v < k.span → k.has s v ≡ true → k.has t v ≡ true
  pub all_inside : (s t : S) → ((v : ℕ) → v < k.span → k.has s v ≡ true → k.has t v ≡ true) → k.inside s t ≡ true
  pub count_tells : (s : S) → Tallied (members (k.has s) k.span) (k.count s)
  pub word_tells : (g h : R) → k.word g ≡ k.word h → SameMoves k g h
  pub word_told : (g h : R) → SameMoves k g h → k.word g ≡ k.word h
  pub label_tells : (s t : S) → k.label s ≡ k.label t → SameMembers k s t
  pub label_told : (s t : S) (w : ℕ) → w < k.span → k.has s w ≡ true → SameMembers k s t → k.label s ≡ k.label t

pub lawful : {M : Type 1} {𝓤 : Ura M} {𝓛 : Logic 𝓤} {𝓜 : Model 𝓤 𝓛.H} {𝓡 : Running 𝓤 𝓛.H 𝓜} {γ : Env} {K R S : RattleType} {k : Ghosts K.Denot R.Denot S.Denot} {d : Dict} {r : CloneGhosts R.Denot} {of_r : Dict} {s : CloneGhosts S.Denot} {of_s : Dict} → Met 𝓛 𝓜 𝓡 γ K R S k d r of_r s of_s → Lawful k
lawful m = record {
  positive = m.positive;
  closed = m.closed;
  unit_acts = m.unit_acts;
  comp_acts = m.comp_acts;
  inv_left = m.inv_left;
  inv_right = m.inv_right;
  full_has = m.full_has;
  meet_has = m.meet_has;
  shift_has = m.shift_has;
  fixed_has = m.fixed_has;
  inside_all = m.inside_all;
  all_inside = m.all_inside;
  count_tells = m.count_tells;
  word_tells = m.word_tells;
  word_told = m.word_told;
  label_tells = m.label_tells;
  label_told = m.label_told;
}

-- the laws on the bytes of words and on reading
pub record Worded {K R S : Type 0} (k : Ghosts K R S) : Type 0 where
  pub word_length : (g : R) → (0 < length (k.word g)) × (length (k.word g) ≤ k.W)
  pub label_length : (s : S) → (0 < length (k.label s)) × (length (k.label s) ≤ k.W)
  pub word_plain : (g : R) → all_plain (k.word g) ≡ true
  pub label_plain : (s : S) → all_plain (k.label s) ≡ true
  pub named_word : (field : List ℕ) (g : R) → k.named field ≡ Some g → k.word g ≡ field
  pub word_named : (g : R) → is_some (k.named (k.word g)) ≡ true
  pub labelled_label : (field : List ℕ) (s : S) → k.labelled field ≡ Some s → k.label s ≡ field
  pub label_labelled : (s : S) → is_some (k.labelled (k.label s)) ≡ true

pub worded : {M : Type 1} {𝓤 : Ura M} {𝓛 : Logic 𝓤} {𝓜 : Model 𝓤 𝓛.H} {𝓡 : Running 𝓤 𝓛.H 𝓜} {γ : Env} {K R S : RattleType} {k : Ghosts K.Denot R.Denot S.Denot} {d : Dict} {r : CloneGhosts R.Denot} {of_r : Dict} {s : CloneGhosts S.Denot} {of_s : Dict} → Met 𝓛 𝓜 𝓡 γ K R S k d r of_r s of_s → Worded k
worded m = record {
  word_length = m.word_length;
  label_length = m.label_length;
  word_plain = m.word_plain;
  label_plain = m.label_plain;
  named_word = m.named_word;
  word_named = m.word_named;
  labelled_label = m.labelled_label;
  label_labelled = m.label_labelled;
}
