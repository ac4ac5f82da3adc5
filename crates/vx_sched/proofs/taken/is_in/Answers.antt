use Rattle.std.proofs.Common.{◌∙◌}
use Rattle.vx_sched.proofs.TakenLemmas.{search-tells}
use Rattle.vx_sched.proofs.taken.is_in.Goals as goal

pub returns : goal.returns
returns c = c.is_ok.ensures.value ∙ search-tells c.args.numbers.now c.args.number c.binary_search.result c.requires c.binary_search.ensures.position
