use Rattle.std.proofs.Common.{refl}
use Rattle.vx_sched.proofs.TableLemmas.{kept-changed}
use Rattle.vx_sched.proofs.table.change_entry.Goals as goal

pub returns-then-change-clause-kept : goal.returns-then-change-clause-kept
returns-then-change-clause-kept c longest k =
    kept-changed c.args.change c.args.reads.now c.change.new.self c.args.places.now c.leave.new.self longest c.args.id k c.change.ensures.changed c.leave.ensures.all

pub returns-else-change-clause-kept : goal.returns-else-change-clause-kept
returns-else-change-clause-kept c longest k =
    kept-changed c.args.change c.args.reads.now c.change.new.self c.args.places.now c.args.places.now longest c.args.id k c.change.ensures.changed
    (record { same = refl; sorted = refl; newest = refl; has = λ place h. h })
