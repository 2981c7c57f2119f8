use Rattle.std.proofs.Common.{◌≡◌, ◌-◌, ◌≤◌, ◌++◌, take, replicate, ap, ◌∙◌, arith, length-drop, length-take}
use borrow.Rule.Slice.PartMut.{Post-is}
use Rattle.page.proofs.Wipes.{wiped_at}
use Rattle.page.proofs.putting.wipe.Goals as goal

pub returns : goal.returns
returns c =
    let bytes = c.args.bytes.now in
    let a = c.min.result in
    let e = c.limit-end.result in
    let le : a ≤ e = omega arith in
    let zeros : c.fill.new.self ≡ replicate (e - a) 0 =
    c.fill.ensures.after (λ y q. q) ∙ ap (λ n. replicate n 0) (simp (length-take, length-drop) (omega arith)) in
    (λ j. take a bytes ++ (zeros j ++ Post-is a e bytes le j)) ∙ wiped_at bytes c.args.from a e c.limit-end.ensures (omega arith)
