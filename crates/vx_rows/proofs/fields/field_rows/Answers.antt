use Rattle.std.proofs.Common.{◌≡◌, ap, sym, subst, ◌∙◌}
use Rattle.std.specs.Prelude.{string_bytes, map, Some}
use Rattle.vx_data.specs.Dtype.{dtype_view}
use Rattle.vx_rows.specs.declared.cell.Cell.TheVariants.{Null}
use Rattle.vx_rows.specs.declared.operand.Operand.TheVariants.{Value}
use Rattle.vx_rows.specs.Binding.{place}
use Rattle.vx_rows.specs.Rows.{column_view, rows_len}
use Rattle.vx_rows.specs.Predicates.{path as path_of}
use Rattle.vx_rows.specs.Operands.{IsValueOf}
use Rattle.vx_rows.specs.Fields.{Hides}
use Rattle.vx_rows.proofs.FieldRowLemmas.{walked_on, walked_out}
use Rattle.vx_rows.proofs.fields.field_rows.Goals as goal

pub returns-in-None-part_at : goal.returns-in-None-part_at
returns-in-None-part_at c =
    let d = dtype_view c.args.dtype.now in
    let column = column_view c.args.column.now in
    let names = c.parts-names.result.now in
    let here = dtype_view c.loop-name.here.now in
    let found : place (string_bytes c.name-item.result) here ≡ Some (c.in-Some.found.0, dtype_view c.in-Some.found.1.now) =
    ap (λ t. place t here) (sym c.as_str.ensures.value) ∙ sym c.in-Some.ensures in
    subst (λ ns. IsValueOf (path_of ns) d column (Value Null)) c.parts-names.ensures
    (walked_out (map string_bytes names) d column names c.loop-name.name-index c.name-item.result here (dtype_view c.in-Some.found.1.now) (column_view c.loop-name.below.now)
    c.in-Some.found.0 c.loop-name.shown c.loop-name.invariant c.loop-name-test.true c.name-item.is found (sym c.in-None-part_at.ensures))

pub loop-name-preserved : goal.loop-name-preserved
loop-name-preserved c =
    let d = dtype_view c.args.dtype.now in
    let column = column_view c.args.column.now in
    let names = c.parts-names.result.now in
    let here = dtype_view c.loop-name.here.now in
    let found : place (string_bytes c.name-item.result) here ≡ Some (c.in-Some.found.0, dtype_view c.in-Some.found.1.now) =
    ap (λ t. place t here) (sym c.as_str.ensures.value) ∙ sym c.in-Some.ensures in
    let hidden : Hides c.loop-name.shown c.in-Some-part_at.found.0.now (rows_len column) c.in_ok-shown.shown =
    subst (λ n. Hides c.loop-name.shown c.in-Some-part_at.found.0.now n c.in_ok-shown.shown) c.len-count.ensures c.in_ok-shown.ensures in
    walked_on (map string_bytes names) d column names c.loop-name.name-index c.name-item.result here (dtype_view c.in-Some.found.1.now) (column_view c.loop-name.below.now)
    (column_view c.in-Some-part_at.found.1.now) c.in-Some.found.0 c.in-Some-part_at.found.0.now c.loop-name.shown c.in_ok-shown.shown c.loop-name.invariant
    c.loop-name-test.true c.name-item.is found (sym c.in-Some-part_at.ensures) hidden
