use Rattle.std.proofs.Common.{◌≡◌, true, length, ap, ◌∙◌}
use Rattle.std.specs.Prelude.{replicate}
use Rattle.std.proofs.lemmas.List.{length-replicate}
use Rattle.vx_rows.specs.Rows.{column_view, pairs_view}
use Rattle.vx_generate.proofs.GeneratedLemmas.{there_true, columns_long, rows_are}
use Rattle.vx_generate.proofs.generating.generated_column.Goals as goal

pub structs-requires-clause-allowed : goal.structs-requires-clause-allowed
structs-requires-clause-allowed c =
    let flags : c.deref.result.now ≡ replicate c.args.rows true = c.deref.ensures.value ∙ c.in_ok-present.ensures in
    rw flags (there_true c.args.rows)

pub structs-requires-clause-long : goal.structs-requires-clause-long
structs-requires-clause-long c =
    let flags : c.deref.result.now ≡ replicate c.args.rows true = c.deref.ensures.value ∙ c.in_ok-present.ensures in
    columns_long c.args.seed c.args.rows (length c.deref.result.now) (pairs_view c.in_ok-fields.fields.items) c.in_ok-fields.ensures (ap length flags ∙ length-replicate c.args.rows true)

pub returns : goal.returns
returns c =
    let flags : c.deref.result.now ≡ replicate c.args.rows true = c.deref.ensures.value ∙ c.in_ok-present.ensures in
    rows_are c.args.seed c.args.rows (column_view c.in_ok-column.column) c.deref.result.now (pairs_view c.in_ok-fields.fields.items) flags c.in_ok-fields.ensures c.in_ok-column.ensures
