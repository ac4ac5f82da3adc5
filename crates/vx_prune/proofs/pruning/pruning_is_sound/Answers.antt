use Rattle.vx_prune.proofs.RowsLemmas.{pruned_rows}
use Rattle.vx_prune.proofs.pruning.pruning_is_sound.Goals as goal

pub returns : goal.returns
returns c = pruned_rows
