use Rattle.std.proofs.Common.{◌++◌}
use Rattle.std.specs.List.{flat_map}
use Rattle.vx_rows.specs.Span.{span}
use Rattle.vx_rows.specs.Written.{text_bytes}
use Rattle.vx_generate.specs.Generated.{name_of}
use Rattle.vx_generate.proofs.GeneratedLemmas.{one_more}
use Rattle.vx_generate.proofs.generated_bytes.push_name_texts.Goals as goal

pub loop-row-preserved : goal.loop-row-preserved
loop-row-preserved c =
    one_more text_bytes (name_of c.args.seed) c.loop-row.row c.args.rows c.loop-row.bytes.items c.push_name.new.bytes.items
    (c.args.bytes.now.items ++ flat_map text_bytes (span (name_of c.args.seed) 0 c.args.rows)) c.loop-row-test.true c.in_ok-push_name.ensures c.loop-row.invariant
