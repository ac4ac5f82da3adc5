use Rattle.std.proofs.Common.{rules}
use Rattle.std.specs.Int.{w32, to_le_bytes}
use Rattle.vx_rows.specs.TextsBehind.{length_from}
use Rattle.vx_rows.proofs.FillingLemmas.{pushed_more}
use Rattle.vx_rows.proofs.text_column.push_lengths_between.Goals as goal

pub loop-first-preserved : goal.loop-first-preserved
loop-first-preserved c =
    record {
      inside = search rules;
      there = pushed_more (to_le_bytes w32) (length_from c.args.places.now) c.args.bytes.now.items c.loop-first.bytes.items c.push_few_lengths.new.bytes.items c.loop-first.first c.min-count.result
          c.loop-first.invariant.there c.in_ok-push_few_lengths.ensures;
    }
