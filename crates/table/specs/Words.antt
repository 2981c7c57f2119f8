-- A table as a reader sees it: relations and sets are read through their words.
use Rattle.std.specs.Prelude.{ℕ, List, map}
use Rattle.kind.specs.declared.Kind.{Ghosts}
use Rattle.table.specs.declared.node.Node.{Node}
use Rattle.table.specs.declared.walks.Route.{Route}

module _ {K R S : Type 0} (k : Ghosts K R S) where
  abbrev pub node_read : Node R S → Node (List ℕ) (List ℕ)
  node_read n = record { link = n.link; relation = k.word n.relation; rank = n.rank; set = k.label n.set }

  abbrev pub table_read : List (Node R S) → List (Node (List ℕ) (List ℕ))
  table_read t = map node_read t

  abbrev pub route_read : Route R → Route (List ℕ)
  route_read w = record { reference = w.reference; relation = k.word w.relation }
