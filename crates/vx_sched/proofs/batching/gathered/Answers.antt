use Rattle.std.proofs.Common.{◌≤◌, List, sym, subst}
use Rattle.vx_sched.specs.Picks.{reads_of}
use Rattle.vx_sched.specs.Span.{AllWithin}
use Rattle.vx_sched.proofs.BatchLemmas.{within-range}
use Rattle.vx_sched.proofs.batching.gathered.Goals as goal
use Rattle.vx_sched.specs.declared.request.ReadRequest.{ReadRequest}

pub within-requires-clause-within : goal.within-requires-clause-within
within-requires-clause-within c =
    let k = c.in_ok-picks.ensures.picked in
    subst (λ (rs : List ReadRequest). AllWithin c.down-start.result c.in_ok-picks.picks.high rs) (sym c.in_ok-reads.ensures)
    (subst (λ n. AllWithin c.down-start.result n (reads_of c.in_ok-picks.picks)) (sym k.high)
    (within-range c.down-start.result (reads_of c.in_ok-picks.picks) k.order (subst (λ n. c.down-start.result ≤ n) k.low c.down-start.ensures.below)))
