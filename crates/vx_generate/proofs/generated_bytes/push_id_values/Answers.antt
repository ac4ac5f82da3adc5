use Rattle.std.proofs.Common.{rules}
use Rattle.vx_data.specs.declared.ptype.PType.TheVariants.{U32}
use Rattle.vx_rows.specs.Written.{cell}
use Rattle.vx_generate.specs.Generated.{id_of}
use Rattle.vx_generate.proofs.GeneratedLemmas.{pushed_more}
use Rattle.vx_generate.proofs.generated_bytes.push_id_values.Goals as goal

pub loop-first-preserved : goal.loop-first-preserved
loop-first-preserved c =
    record {
      inside = search rules;
      there = pushed_more (cell U32) id_of c.args.bytes.now.items c.loop-first.bytes.items c.push_few_ids.new.bytes.items c.loop-first.first c.min-count.result c.loop-first.invariant.there c.in_ok-push_few_ids.ensures;
    }
