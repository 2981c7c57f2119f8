use Rattle.std.proofs.Common.{◌≡◌, ℕ, false, List, Err, codes, rules}
use Rattle.std.specs.Str.{bytes_eq}
use Rattle.std.proofs.lemmas.Slice.Eq.{text_from_reads}
use Rattle.lines.specs.Said.{said_by}
use Rattle.lines.specs.declared.fault.LineFault.TheVariants.{Shape}
use Rattle.lines.proofs.line.line_of.Goals as goal

pub returns-in_ok-comparison-in-note : goal.returns-in_ok-comparison-in-note
returns-in_ok-comparison-in-note c = rw (text_from_reads c.args.verb.now (codes "note") (search rules) (search rules)) (search rules)

-- any other verb
other : (verb : List ℕ) (fields : List (List ℕ)) → bytes_eq verb (codes "note") ≡ false → bytes_eq verb (codes "see") ≡ false → bytes_eq verb (codes "ask") ≡ false → Err Shape ≡ said_by verb fields
other verb fields n s a = rw (n, s, a)

pub returns-in_default : goal.returns-in_default
returns-in_default c = other c.args.verb.now _ (search rules) (search rules) (search rules)
