use Rattle.std.proofs.Common.{◌≡◌, ◌<◌, List, [], length, subst, arith}
use Rattle.std.proofs.lemmas.Grind.{common_steps}
use Rattle.vx_sched.specs.Span.{Span}
use Rattle.vx_sched.specs.Scheduling.{NonePolled, all_taken}
use Rattle.vx_sched.proofs.state.State.next.Goals as goal

pub returns-in-None-clause-none : goal.returns-in-None-clause-none
returns-in-None-clause-none c =
    let empty : c.in_ok-batch.batch.items ≡ [] = grind (arith, common_steps) in
    subst (λ (spans : List Span). length spans < 1 → NonePolled (all_taken c.args.self.now spans).reads) empty c.in_ok-batch.ensures.all (omega arith)
