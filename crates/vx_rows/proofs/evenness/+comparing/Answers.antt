use Rattle.std.proofs.Common.{◌≡◌, ◌<◌, length, rules, arith}
use Rattle.std.specs.Prelude.{string_bytes}
use Rattle.vx_data.specs.Dtype.{dtype_view}
use Rattle.vx_rows.specs.Rows.{column_view, dtype_of}
use Rattle.vx_rows.proofs.PartLemmas.{as_many, typed_name, typed_rest, typed_more}
use Rattle.vx_rows.proofs.evenness.+comparing.Goals as goal

pub are_of-returns-then-columns-types-clause-no : goal.are_of-returns-then-columns-types-clause-no
are_of-returns-then-columns-types-clause-no t c = λ f e. let h = as_many c.args.columns.now c.args.types.now e in omega (arith, h, c.if-columns-types.true)

pub are_of-returns-then-ne-clause-no : goal.are_of-returns-then-ne-clause-no
are_of-returns-then-ne-clause-no t c = λ f e.
    let l : c.loop-at.at < length c.args.types.now = omega (arith, c.loop-at-test.true, c.loop-at.invariant.2) in
    let name = typed_name c.args.columns.now c.args.types.now c.loop-at.at c.index-columns-at.result c.index-types-at.result c.loop-at-test.true c.index-columns-at.is l c.index-types-at.is (c.loop-at.invariant.1 e) in
    search (rules, name)

pub are_of-loop-at-preserved : goal.are_of-loop-at-preserved
are_of-loop-at-preserved t c =
    let l : c.loop-at.at < length c.args.types.now = omega (arith, c.loop-at-test.true, c.loop-at.invariant.2) in
    let name : string_bytes c.index-columns-at.result.0 ≡ string_bytes c.index-types-at.result.0 = search rules in
    let type : dtype_of (column_view c.index-columns-at.result.1) ≡ dtype_view c.index-types-at.result.1 = search rules in (
      λ r. c.loop-at.invariant.0 (typed_more c.args.columns.now c.args.types.now c.loop-at.at c.index-columns-at.result c.index-types-at.result c.loop-at-test.true c.index-columns-at.is l c.index-types-at.is name type r),
      λ e. typed_rest c.args.columns.now c.args.types.now c.loop-at.at c.index-columns-at.result c.index-types-at.result c.loop-at-test.true c.index-columns-at.is l c.index-types-at.is (c.loop-at.invariant.1 e),
      c.loop-at.invariant.2,
    )
