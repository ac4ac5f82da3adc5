use Rattle.vx_sched.proofs.table.add.Goals as goal

pub returns-in_err-insert-clause-places : goal.returns-in_err-insert-clause-places
returns-in_err-insert-clause-places c longest t = c.insert.ensures.kept c.args.reads.now longest t c.requires

pub returns-in_err-insert-clause-apart : goal.returns-in_err-insert-clause-apart
returns-in_err-insert-clause-apart c longest t = c.insert.ensures.apart c.args.reads.now longest t

pub returns-in_err-add-clause-places : goal.returns-in_err-add-clause-places
returns-in_err-add-clause-places c longest t = c.insert.ensures.kept c.args.reads.now longest t c.requires

pub returns-in_err-add-clause-apart : goal.returns-in_err-add-clause-apart
returns-in_err-add-clause-apart c longest t = c.insert.ensures.apart c.args.reads.now longest t

pub returns-clause-places : goal.returns-clause-places
returns-clause-places c longest t = c.insert.ensures.kept c.args.reads.now longest t c.requires

pub returns-clause-apart : goal.returns-clause-apart
returns-clause-apart c longest t = c.insert.ensures.apart c.args.reads.now longest t
