use Rattle.std.proofs.Common.{take, ap, ◌∙◌, arith}
use Rattle.page.proofs.Uses.{take_in_use}
use Rattle.page.proofs.page.Page.text.Goals as goal

pub returns : goal.returns
returns c =
    let bytes = c.args.self.now.bytes.now in
    let mark = c.args.self.now.mark in
    ap (λ k. take k bytes) (omega arith) ∙ take_in_use 65536 mark bytes
