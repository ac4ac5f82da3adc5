use Rattle.std.proofs.Common.{◌≡◌, ◌<◌, ◌≤◌, ◌∙◌, ap, sym, refl, Some, None, rules, arith, to_z, of_z}
use Rattle.std.specs.Prelude.{slice_index_or}
use Rattle.std.specs.Int.{w64}
use Rattle.std.specs.Ordering.{int_cmp, flip_args}
use Rattle.std.specs.Cmp.{int_cmp_total}
use Rattle.vx_data.specs.Scalar.{number}
use Rattle.vx_rows.specs.Span.{span}
use Rattle.vx_rows.specs.Columns.{int_row}
use Rattle.vx_rows.specs.Keys.{of_key}
use Rattle.vx_rows.specs.RowStats.{lesser}
use Rattle.vx_rows.proofs.KeyLemmas.{lesser_key, greater_key}
use Rattle.vx_rows.proofs.SpanLemmas.{length_span, get_or_span}
use Rattle.vx_rows.proofs.ExtentLemmas.{gathered_step, gathered_summary}
use Rattle.vx_rows.proofs.extents.extent_of_plain.Goals as goal

pub loop-row-init : goal.loop-row-init
loop-row-init c =
    let f = int_row c.args.ptype None c.args.bytes.now c.args.at in
    let long = length_span f 0 c.args.count in
    let some : 0 < c.args.count = omega (arith, c.if-count-eq0.false) in
    let fits : to_z w64 (of_z w64 c.plain_key-first.result) ≡ c.plain_key-first.result = search rules in
    let first : Some (of_key c.args.ptype (to_z w64 (of_z w64 c.plain_key-first.result))) ≡ slice_index_or (span f 0 c.args.count) 0 None =
    ap (λ k. Some (of_key c.args.ptype k)) fits ∙ c.plain_key-first.ensures ∙ sym (get_or_span f 0 c.args.count 0 None some) in
    gathered_step int_cmp int_cmp_total (span f 0 c.args.count) 0 None None 0 (refl, refl, (omega arith, omega arith)) _ _ _ 0 (omega (arith, some, long)) first refl refl refl

pub loop-row-preserved : goal.loop-row-preserved
loop-row-preserved c =
    let f = int_row c.args.ptype None c.args.bytes.now c.args.at in
    let long = length_span f 0 c.args.count in
    let less : c.loop-row.row < c.args.count = search rules in
    let key = c.plain_key.result in
    let fits : to_z w64 (of_z w64 c.plain_key.result) ≡ c.plain_key.result = search rules in
    let here : Some (of_key c.args.ptype c.plain_key.result) ≡ slice_index_or (span f 0 c.args.count) c.loop-row.row None =
    c.plain_key.ensures ∙ ap f (omega arith) ∙ sym (get_or_span f 0 c.args.count c.loop-row.row None less) in
    let low = c.widened-ends.ensures.least ∙ ap (λ k. lesser int_cmp c.loop-row.ends.least k) fits in
    let high = c.widened-ends.ensures.greatest ∙ ap (λ k. lesser (flip_args int_cmp) c.loop-row.ends.greatest k) fits in
    gathered_step int_cmp int_cmp_total (span f 0 c.args.count) c.loop-row.row
    (Some (of_key c.args.ptype c.loop-row.ends.least)) (Some (of_key c.args.ptype c.loop-row.ends.greatest)) 0 c.loop-row.invariant
    _ _ (Some (of_key c.args.ptype key)) 0 (omega (arith, less, long)) here
    (ap (λ k. Some (of_key c.args.ptype k)) low ∙ lesser_key c.args.ptype (Some c.loop-row.ends.least) (Some key))
    (ap (λ k. Some (of_key c.args.ptype k)) high ∙ greater_key c.args.ptype (Some c.loop-row.ends.greatest) (Some key)) refl

pub returns : goal.returns
returns c =
    let f = int_row c.args.ptype None c.args.bytes.now c.args.at in
    let long = length_span f 0 c.args.count in
    let past : c.args.count ≤ c.loop-row.row = search rules in
    c.told_by_keys.ensures
    ∙ gathered_summary int_cmp int_cmp_total (span f 0 c.args.count) c.loop-row.row
    (Some (of_key c.args.ptype c.loop-row.ends.least)) (Some (of_key c.args.ptype c.loop-row.ends.greatest)) 0 c.loop-row.invariant number _ _ (omega (arith, past, long)) refl refl
