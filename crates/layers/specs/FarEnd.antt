-- Relations told from the far end: g moves a value as its inverse does below, and g after h is h after g below.
use Rattle.std.specs.Prelude.{ℕ}
use Rattle.kind.specs.declared.Kind.{Ghosts}

module _ {K R S : Type 0} (k : Ghosts K R S) where
  abbrev pub far_act : R → ℕ → ℕ
  far_act g v = k.act (k.inv g) v

  abbrev pub far_comp : R → R → R
  far_comp g h = k.comp h g

  abbrev pub far_shift : R → S → S
  far_shift g s = k.shift (k.inv g) s

  -- the layer on k as a whole; F stands for it
  abbrev pub far_kind : {F : Type 0} → Ghosts F R S
  far_kind = record {
    span = k.span;
    act = far_act;
    has = k.has;
    unit = k.unit;
    comp = far_comp;
    inv = k.inv;
    full = k.full;
    meet = k.meet;
    shift = far_shift;
    fixed = k.fixed;
    inside = k.inside;
    count = k.count;
    word = k.word;
    label = k.label;
    W = k.W;
    named = k.named;
    labelled = k.labelled;
  }
