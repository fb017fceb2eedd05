use Rattle.reg_store_opening.proofs.terms.+same_term.Given as goal

abbrev pub decreases-same_term : goal.decreases-same_term
decreases-same_term l = l.left.depth
