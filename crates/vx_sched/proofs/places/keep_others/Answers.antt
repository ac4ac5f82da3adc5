use Rattle.std.proofs.Common.{◌==◌, not, rules}
use Rattle.std.proofs.lemmas.Fn.{filter_same}
use Rattle.vx_sched.specs.declared.request.ReadRequest.{ReadRequest}
use Rattle.vx_sched.proofs.places.keep_others.Goals as goal

pub returns : goal.returns
returns c = filter_same _ (λ (r : ReadRequest). not (r.id == c.args.id)) _ (λ x b q k. search rules) _ _ c.retain.ensures.filtered
