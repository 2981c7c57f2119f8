use Rattle.conductors.proofs.orders.+source.Given as goal

abbrev pub decreases-source : goal.decreases-source
decreases-source l = l.n
