use Rattle.std.proofs.Common.{◌++◌, ◌∙◌, ap}
use Rattle.std.specs.List.{flat_map}
use Rattle.vx_rows.specs.Span.{span}
use Rattle.vx_rows.specs.Written.{length_bytes}
use Rattle.vx_generate.specs.Generated.{name_of}
use Rattle.vx_generate.proofs.GeneratedLemmas.{one_more}
use Rattle.vx_generate.proofs.generated_bytes.push_name_lengths.Goals as goal

pub loop-row-preserved : goal.loop-row-preserved
loop-row-preserved c =
    one_more length_bytes (name_of c.args.seed) c.loop-row.row c.args.rows c.loop-row.bytes.items c.extend_from_slice.new.self.items
    (c.args.bytes.now.items ++ flat_map length_bytes (span (name_of c.args.seed) 0 c.args.rows)) c.loop-row-test.true
    (c.in_ok-extend_from_slice.ensures.items ∙ ap (λ bs. c.loop-row.bytes.items ++ bs) c.length_bytes.ensures) c.loop-row.invariant
