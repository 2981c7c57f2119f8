use Rattle.std.proofs.Common.{rules, codes}
use Rattle.std.proofs.lemmas.Slice.Eq.{text_from_reads}
use Rattle.lines.proofs.line.read_sheet.Goals as goal

pub returns-in-leads : goal.returns-in-leads
returns-in-leads c = rw (text_from_reads c.args.name.now (codes "leads") (search rules) (search rules))

pub returns-in-phases : goal.returns-in-phases
returns-in-phases c = rw (text_from_reads c.args.name.now (codes "phases") (search rules) (search rules))

pub returns-in-drums : goal.returns-in-drums
returns-in-drums c = rw (text_from_reads c.args.name.now (codes "drums") (search rules) (search rules))

pub returns-in-temps : goal.returns-in-temps
returns-in-temps c = rw (text_from_reads c.args.name.now (codes "temps") (search rules) (search rules))
