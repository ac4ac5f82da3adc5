use Rattle.std.proofs.lemmas.List.Elements.{All-from_recursion}
use Rattle.vx_sched.specs.Entries.{entry_at, waiting_among}
use Rattle.vx_sched.specs.Places.{IsWaitingRead}
use Rattle.vx_sched.proofs.KeptLemmas.{waits-known}
use Rattle.vx_sched.proofs.TableLemmas.{all-named, among-listed, among-wait, waiting-id, waiting-placed}
use Rattle.vx_sched.proofs.table.reads_between.Goals as goal

pub returns-then-are_in_order-clause-all : goal.returns-then-are_in_order-clause-all
returns-then-are_in_order-clause-all c longest t id r w from upto =
    c.in_ok-found.ensures.all r.offset id from upto (waits-known (entry_at c.args.reads.now id) r w)
    (c.are_in_order.ensures c.if-are_in_order.true (r.offset, id) (waiting-placed c.args.reads.now c.args.places.now longest t id r w))

pub returns-clause-all : goal.returns-clause-all
returns-clause-all c longest t id r w from upto =
    rw (c.in_ok-found-2.ensures, c.deref.ensures.value) (among-listed c.args.reads.now c.in_ok-ids.ids.items id r w
    (waiting-id c.args.reads.now c.args.places.now longest t id r w)
    (all-named c.args.reads.now c.args.places.now longest c.args.left c.args.right c.in_ok-ids.ids.items t c.in_ok-ids.ensures.near c.in_ok-ids.ensures.all id r w from upto))

pub returns-clause-wait : goal.returns-clause-wait
returns-clause-wait c longest t =
    rw (c.in_ok-found-2.ensures, c.deref.ensures.value) (All-from_recursion (IsWaitingRead c.args.reads.now) (waiting_among c.args.reads.now c.in_ok-ids.ids.items)
    (among-wait c.args.reads.now c.args.places.now longest c.in_ok-ids.ids.items t))
