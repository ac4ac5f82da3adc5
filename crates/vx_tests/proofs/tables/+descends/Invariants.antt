use Rattle.vx_tests.proofs.tables.+descends.Given as goal

abbrev pub decreases-descends : goal.decreases-descends
decreases-descends l = l.count
