-- What a call does not touch.
use Rattle.std.specs.Prelude.{◌≡◌, false, drop, Result, OnErr}
use Rattle.sheet.specs.declared.sheet.Sheet.{Sheet}
use Rattle.sheet.specs.State.{in_trial}
use Rattle.sheet.specs.View.{view}

module _ {K R S : Type 0} where
  -- from a to b nothing past the used nodes and log entries is written, and outside a trial nothing is written to the log
  pub record Frame (a b : Sheet K R S) : Type 0 where
    pub nodes_past : drop 256 b.nodes.now ≡ drop 256 a.nodes.now
    pub log_past : drop 512 b.log.now ≡ drop 512 a.log.now
    pub log_idle : in_trial (view a) ≡ false → b.log.now ≡ a.log.now

  -- so from a to b, and b lies in the memory that a lay in
  pub record Keeps (a b : Sheet K R S) : Type 0 where
    pub frame : Frame a b
    pub nodes : b.nodes.ghost_name ≡ a.nodes.ghost_name
    pub log : b.log.ghost_name ≡ a.log.ghost_name

  -- a refusal leaves every node and every entry as it was
  abbrev pub RefusedUnchanged : {T E : Type 0} → Result T E → Sheet K R S → Sheet K R S → Type 0
  RefusedUnchanged r a b = OnErr r ((b.nodes.now ≡ a.nodes.now) × (b.log.now ≡ a.log.now))
