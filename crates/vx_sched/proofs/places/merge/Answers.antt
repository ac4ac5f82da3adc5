use Rattle.std.proofs.Common.{◌≡◌, ◌≤◌, Some}
use Rattle.vx_sched.specs.Entries.{entry_at, if_waits}
use Rattle.vx_sched.specs.declared.request.ReadRequest.{ReadRequest}
use Rattle.vx_sched.proofs.KeptLemmas.{merged-all, merged-held}
use Rattle.vx_sched.proofs.places.merge.Goals as goal

pub returns-clause-held : goal.returns-clause-held
returns-clause-held c =
    merged-held c.args.sorted.now.items c.args.found.items c.sort_new.new.found.items c.join.new.sorted.items c.sort_reads.new.reads.items
    c.sort_new.ensures c.in_ok-join.ensures.all c.sort_reads.ensures.same

pub returns-clause-asked : goal.returns-clause-asked
returns-clause-asked c entries =
    merged-all c.args.sorted.now.items c.args.found.items c.sort_new.new.found.items c.join.new.sorted.items c.sort_reads.new.reads.items
    c.sort_new.ensures c.in_ok-join.ensures.all c.sort_reads.ensures.same (λ r. (s : ReadRequest) → if_waits (entry_at entries r.id) ≡ Some s → s ≡ r)

pub returns-clause-newest : goal.returns-clause-newest
returns-clause-newest c n =
    merged-all c.args.sorted.now.items c.args.found.items c.sort_new.new.found.items c.join.new.sorted.items c.sort_reads.new.reads.items
    c.sort_new.ensures c.in_ok-join.ensures.all c.sort_reads.ensures.same (λ r. r.id ≤ n)
