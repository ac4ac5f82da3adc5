use Rattle.std.proofs.Common.{◌≡◌, sym, ap, subst, ◌∙◌, length, Ok, arith}
use Rattle.vx_data.specs.Dtype.{pairs_view as types_view}
use Rattle.vx_rows.specs.Rows.{FieldRows, column_view, viewed}
use Rattle.vx_rows.specs.Trees.{columns_at}
use Rattle.vx_rows.proofs.TreeLemmas.{Reading, field_size, reading_step, reading_end}
use Rattle.vx_rows.proofs.decoding.+reading.Goals as goal

pub read_fields-read_column-requires : goal.read_fields-read_column-requires
read_fields-read_column-requires t c =
    let less = field_size c.args.fields.now c.loop-index.index c.index-fields-index.result c.loop-index-test.true c.index-fields-index.is in
    let place = c.loop-index.invariant.inside in
    (omega (arith, less, c.decreases), place)

pub read_fields-loop-index-preserved : goal.read_fields-loop-index-preserved
read_fields-loop-index-preserved t c =
    let total = columns_at c.args.kinds.now (types_view c.args.fields.now) c.args.rows c.args.segment.now.bytes c.args.at in
    reading_step c.args.kinds.now c.args.fields.now c.args.rows c.args.segment.now.bytes (columns_at c.args.kinds.now (types_view c.args.fields.now) c.args.rows c.args.segment.now.bytes c.args.at)
    c.loop-index.index c.loop-index.place c.in_ok-column.after c.index-fields-index.result (viewed c.loop-index.columns.items) (viewed c.add.new.fields.items) (column_view c.in_ok-column.column)
    c.loop-index.invariant c.loop-index-test.true c.index-fields-index.is c.in_ok-column.ensures.value c.in_ok-column.ensures.inside c.in_ok-add.ensures

pub read_fields-returns-clause-value : goal.read_fields-returns-clause-value
read_fields-returns-clause-value t c =
    let at-end : c.loop-index.index ≡ length c.args.fields.now = omega arith in
    let reading = subst (λ i. Reading c.args.kinds.now c.args.fields.now c.args.rows c.args.segment.now.bytes (columns_at c.args.kinds.now (types_view c.args.fields.now) c.args.rows c.args.segment.now.bytes c.args.at) i c.loop-index.place (viewed c.loop-index.columns.items)) at-end c.loop-index.invariant in
    reading_end c.args.kinds.now c.args.fields.now c.args.rows c.args.segment.now.bytes (columns_at c.args.kinds.now (types_view c.args.fields.now) c.args.rows c.args.segment.now.bytes c.args.at) c.loop-index.place c.loop-index.columns.items reading
    ∙ ap (λ (cs : FieldRows). Ok (cs, c.loop-index.place)) (sym c.new.ensures)
