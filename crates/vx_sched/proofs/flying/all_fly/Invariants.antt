use Rattle.std.proofs.Common.{◌≡◌, drop}
use Rattle.std.specs.List.{list_all}
use Rattle.vx_sched.specs.Entries.{entry_at}
use Rattle.vx_sched.specs.Flying.{flies_so}
use Rattle.vx_sched.proofs.flying.all_fly.Given as goal

abbrev pub invariant-loop-read : goal.invariant-loop-read
invariant-loop-read l = list_all (λ r. flies_so l.span l.size r (entry_at l.reads r.id)) (drop l.read-index l.spans) ≡ list_all (λ r. flies_so l.span l.size r (entry_at l.reads r.id)) l.spans
