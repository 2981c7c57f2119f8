use Rattle.std.proofs.Common.{◌≡◌, codes, arith, rules}
use Rattle.std.proofs.lemmas.List.{same_lists, places}
use Rattle.leads.proofs.LeadsKind.read_relation.Goals as goal

pub returns-in-crossed : goal.returns-in-crossed
returns-in-crossed c =
    let is : c.args.field.now ≡ codes "crossed" = same_lists _ _ (search (rules, places)) (λ k d h. grind (arith, places)) in
    search rules
