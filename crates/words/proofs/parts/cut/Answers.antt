use Rattle.std.proofs.Common.{sym, ◌∙◌}
use Rattle.std.proofs.lemmas.List.{take_rest}
use Rattle.words.proofs.Cuts.{parts_first, parts_none}
use Rattle.words.proofs.parts.cut.Goals as goal

pub returns-in-Some : goal.returns-in-Some
returns-in-Some c = simp take_rest (parts_first c.args.separator _ c.args.text.now (sym c.place.ensures ∙ c.in-Some.is))

pub returns-in-None : goal.returns-in-None
returns-in-None c = parts_none c.args.separator c.args.text.now (sym c.place.ensures ∙ c.in-None.is)
