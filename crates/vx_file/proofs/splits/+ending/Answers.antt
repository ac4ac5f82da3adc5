use Rattle.std.proofs.Common.{subst, arith}
use Rattle.vx_data.specs.Layout.{dtype_of, segments_of, rows_of, Fits}
use Rattle.vx_file.proofs.ReadingLemmas.{child_smaller}
use Rattle.vx_file.proofs.SplitLemmas.{chunk_inside, chunks_sum, field_rows}
use Rattle.vx_file.proofs.splits.+ending.Goals as goal

pub push_field_ends-push_ends-requires : goal.push_field_ends-push_ends-requires
push_field_ends-push_ends-requires t c =
    let a = c.args.layout.now in
    let ts = c.fitted_children-field-items.result.now in
    let smaller = child_smaller a ts c.loop-field.field-index c.field-item.result c.fitted_children-field-items.ensures.below c.loop-field-test.true c.field-item.is in
    let fits = subst (λ k. Fits k (dtype_of a) (rows_of a) (segments_of a) ts) c.requires.fields c.fitted_children-field-items.ensures.fits in
    let rows = field_rows (dtype_of a) (rows_of a) (segments_of a) ts c.loop-field.field-index c.field-item.result fits c.loop-field-test.true c.field-item.is in
    let inside = c.requires.inside in
    (omega (arith, smaller, c.decreases), omega (arith, rows, inside))

pub push_chunk_ends-push_ends-requires : goal.push_chunk_ends-push_ends-requires
push_chunk_ends-push_ends-requires t c =
    let a = c.args.layout.now in
    let ts = c.fitted_children-chunk-items.result.now in
    let smaller = child_smaller a ts c.loop-chunk.chunk-index c.chunk-item.result c.fitted_children-chunk-items.ensures.below c.loop-chunk-test.true c.chunk-item.is in
    let fits = subst (λ k. Fits k (dtype_of a) (rows_of a) (segments_of a) ts) c.requires.chunked c.fitted_children-chunk-items.ensures.fits in
    let sum = chunks_sum (dtype_of a) (rows_of a) (segments_of a) ts fits in
    let within = chunk_inside c.args.ends.now.items c.args.first ts c.loop-chunk.chunk-index c.chunk-item.result c.loop-chunk.ends.items c.loop-chunk.at c.loop-chunk-test.true c.chunk-item.is c.loop-chunk.invariant in
    let inside = c.requires.inside in
    (omega (arith, smaller, c.decreases), omega (arith, sum, within, inside))
