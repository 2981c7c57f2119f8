-- What a call keeps that writes no log.
use Rattle.std.proofs.Common.{◌≡◌, drop, ap}
use Rattle.sheet.specs.declared.sheet.Sheet.{Sheet}
use Rattle.sheet.specs.Frame.{Keeps}

pub log_kept : {K R S : Type 0} (a b : Sheet K R S) → drop 256 b.nodes.now ≡ drop 256 a.nodes.now → b.nodes.ghost_name ≡ a.nodes.ghost_name → b.log ≡ a.log → Keeps a b
log_kept a b past lent same = record {
  frame = record { nodes_past = past; log_past = ap (λ l. drop 512 l.now) same; log_idle = λ _. ap (λ l. l.now) same };
  nodes = lent;
  log = ap (λ l. l.ghost_name) same;
}
