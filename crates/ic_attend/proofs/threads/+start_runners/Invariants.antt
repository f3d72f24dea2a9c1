use Rattle.ic_attend.proofs.threads.+start_runners.Given as goal

abbrev pub decreases-start_runners : goal.decreases-start_runners
decreases-start_runners g l = l.runners
