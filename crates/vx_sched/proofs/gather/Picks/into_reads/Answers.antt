use Rattle.std.proofs.Common.{◌++◌, List, ap, sym, ◌∙◌}
use Rattle.vx_sched.specs.declared.request.ReadRequest.{ReadRequest}
use Rattle.vx_sched.proofs.LaterLemmas.{values-apart}
use Rattle.vx_sched.proofs.gather.Picks.into_reads.Goals as goal

pub returns : goal.returns
returns c =
    c.in_ok-append.ensures.items ∙ ap (λ (reads : List ReadRequest). reads ++ c.args.self.later.items) c.in_ok-reads.ensures
    ∙ sym (values-apart c.args.self.reads.entries c.args.self.later.items)
