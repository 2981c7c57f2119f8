-- When two relations, or two sets, of a kind are the same to whoever reads them.
use Rattle.std.specs.Prelude.{◌≡◌, ℕ, ◌<◌}
use Rattle.kind.specs.declared.Kind.{Ghosts}

module _ {K R S : Type 0} (k : Ghosts K R S) where
  abbrev pub SameMoves : R → R → Type 0
  SameMoves g h = (v : ℕ) → v < k.span → k.act g v ≡ k.act h v

  abbrev pub SameMembers : S → S → Type 0
  SameMembers s t = (v : ℕ) → v < k.span → k.has s v ≡ k.has t v
