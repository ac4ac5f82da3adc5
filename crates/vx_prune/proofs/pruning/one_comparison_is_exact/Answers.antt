use Rattle.vx_prune.proofs.ExactLemmas.{exact_comparison}
use Rattle.vx_prune.proofs.pruning.one_comparison_is_exact.Goals as goal

pub returns : goal.returns
returns c = exact_comparison
