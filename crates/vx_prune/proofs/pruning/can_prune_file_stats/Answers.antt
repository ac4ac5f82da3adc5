use Rattle.std.proofs.Common.{◌≡◌, sym, ◌∙◌}
use Rattle.vx_data.specs.Dtype.{dtype_view}
use Rattle.vx_rows.specs.Bounds.{bound_view}
use Rattle.vx_prune.specs.Never.{never}
use Rattle.vx_prune.proofs.RowsLemmas.{pruned_rows}
use Rattle.vx_prune.proofs.pruning.can_prune_file_stats.Goals as goal

pub returns-clause-sound : goal.returns-clause-sound
returns-clause-sound c =
    let p = (bound_view c.args.bound.now).0 in
    let d = dtype_view c.args.dtype.now in
    let ss = c.args.file_stats.now.sets in
    let value : c.never.result ≡ never p d ss c.args.row_count = cc in
    λ yes. pruned_rows p d ss c.args.row_count (sym value ∙ yes)
