use Rattle.conductors.proofs.orders.+place.Given as goal

abbrev pub decreases-place : goal.decreases-place
decreases-place l = l.n
