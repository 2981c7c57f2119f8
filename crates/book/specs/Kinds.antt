-- The kinds of the book's sheets.
use Rattle.std.specs.Prelude.{ℕ}
use Rattle.kind.specs.declared.Kind.{Ghosts}
use Rattle.leads.specs.declared.Leads.{Leads}
use Rattle.leads.specs.declared.Turn.{Turn}
use Rattle.leads.specs.declared.Ends.{Ends}
use Rattle.leads.specs.contracts.LeadsKind.TheImpl.{ghosts as leads}
use Rattle.conductors.specs.declared.three.Three.{Three}
use Rattle.conductors.specs.declared.phases.Orders.{Orders}
use Rattle.conductors.specs.OrderKind.{orders_kind}
use Rattle.picks.specs.declared.Pick.{Pick}
use Rattle.drums.specs.declared.Drums.{Drums}
use Rattle.drums.specs.contracts.DrumsKind.TheImpl.{ghosts as drums}
use Rattle.layers.specs.declared.far_end.FarEnd.{FarEnd}
use Rattle.layers.specs.FarEnd.{far_kind}
use Rattle.temps.specs.declared.Temps.{Temps}
use Rattle.temps.specs.contracts.TempsKind.TheImpl.{ghosts as temps}

abbrev pub leads_kind : Ghosts Leads Turn Ends
leads_kind = leads

abbrev pub phases_kind : Ghosts (Orders Three) ℕ ℕ
phases_kind = orders_kind 3

abbrev pub drums_kind : Ghosts (FarEnd Drums) ℕ Pick
drums_kind = far_kind drums

abbrev pub temps_kind : Ghosts Temps ℕ Pick
temps_kind = temps
