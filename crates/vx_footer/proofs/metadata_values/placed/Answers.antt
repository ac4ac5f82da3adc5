use Rattle.std.proofs.Common.{arith}
use Rattle.vx_footer.specs.Serializing.{values_view, values_end}
use Rattle.vx_footer.proofs.ValueLemmas.{end_within}
use Rattle.vx_footer.proofs.metadata_values.placed.Goals as goal

pub entry_and_end-requires-clause-fits : goal.entry_and_end-requires-clause-fits
entry_and_end-requires-clause-fits c =
    end_within c.loop-at.start (values_end c.args.offset (values_view c.args.values.now)) c.args.values.now c.loop-at.at c.index-values-at.result (omega arith) c.index-values-at.is c.loop-at.invariant.2 c.requires.fits
