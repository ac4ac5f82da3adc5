use Rattle.std.proofs.Common.{sym, ap, ◌∙◌}
use Rattle.vx_prune.specs.KeptAnswers.{about}
use Rattle.vx_prune.specs.Readers.{layout_of, stats_of, is_pruned}
use Rattle.vx_prune.proofs.file_stats_layout_reader.FileStatsLayoutReader.look_and_keep.Goals as goal

pub set-requires : goal.set-requires
set-requires c =
    let self = c.args.self.now in
    record {
      rows = about (layout_of self) (stats_of self);
      named = sym c.requires;
      told = c.look-is_pruned.ensures ∙ ap (λ b. is_pruned b.0 self) (sym c.in-Ok.ensures);
    }
