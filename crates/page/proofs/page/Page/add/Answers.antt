use Rattle.std.proofs.Common.{Ok, rules}
use Rattle.page.proofs.Added.{place_with, blank_with, view_with}
use Rattle.page.proofs.page.Page.add.Goals as goal

pub returns-in_err-write-clause-place : goal.returns-in_err-write-clause-place
returns-in_err-write-clause-place c = place_with _ _ c.args.self.now.mark c.args.text.now (search rules) (search rules)

pub returns-clause-view : goal.returns-clause-view
returns-clause-view c = view_with _ _ c.args.text.now (Ok tt) _ _ (search rules) (search rules) (search rules)

pub returns-clause-blank : goal.returns-clause-blank
returns-clause-blank c = blank_with _ _ c.args.text.now _ _ (search rules) (search rules)

pub returns-clause-place : goal.returns-clause-place
returns-clause-place c = place_with _ _ c.args.self.now.mark c.args.text.now (search rules) (search rules)
