use Rattle.std.proofs.Common.{rules}
use Rattle.std.proofs.lemmas.Fn.{filter_same}
use Rattle.vx_sched.specs.Entries.{entry_at}
use Rattle.vx_sched.specs.Places.{if_waiting}
use Rattle.vx_sched.specs.declared.request.ReadRequest.{ReadRequest}
use Rattle.vx_sched.proofs.places.keep_waiting.Goals as goal

pub returns : goal.returns
returns c = filter_same _ (λ (r : ReadRequest). if_waiting (entry_at c.args.reads.now r.id)) _ (λ x b q k. search rules) _ _ c.retain.ensures.filtered
