use Rattle.conductors.proofs.count.Count.+number_of.Given as goal

abbrev pub decreases-number_of : goal.decreases-number_of
decreases-number_of l = l.self.number
