use Rattle.std.proofs.Common.{◌≡◌, ◌++◌, drop}
use Rattle.vx_sched.specs.Entries.{waiting_among}
use Rattle.vx_sched.proofs.table.waiting_among.Given as goal

abbrev pub invariant-loop-id : goal.invariant-loop-id
invariant-loop-id l = l.found.items ++ waiting_among l.reads (drop l.id-index l.ids) ≡ waiting_among l.reads l.ids
