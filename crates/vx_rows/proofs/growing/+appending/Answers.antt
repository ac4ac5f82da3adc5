use Rattle.std.proofs.Common.{◌≡◌, ◌<◌, ◌≤◌, ◌∙◌, ap, sym, refl, subst, length, get_or, rules, arith}
use Rattle.std.specs.Prelude.{String}
use Rattle.std.specs.Global.{Global}
use Rattle.vx_rows.specs.declared.column.Column.{Column}
use Rattle.vx_rows.specs.Rows.{column_view, dtype_of, IsColumn}
use Rattle.vx_rows.specs.Trees.{type_size}
use Rattle.vx_rows.specs.Builders.{pairs_view}
use Rattle.vx_rows.proofs.FieldGrowLemmas.{append_more, append_end, as_many_builders, builder_type, column_at, column_size}
use Rattle.vx_rows.proofs.KeepLemmas.{fields_same, fields_keep_set}
use Rattle.vx_rows.proofs.growing.+appending.Goals as goal

pub append_all-loop-at-init : goal.append_all-loop-at-init
append_all-loop-at-init t c = ((refl, λ k d l. refl), refl, fields_same (pairs_view c.args.builders.now.items) (pairs_view c.args.builders.now.items) refl)

pub append_all-bounds-columns-at : goal.append_all-bounds-columns-at
append_all-bounds-columns-at t c =
    let many = as_many_builders c.args.builders.now.items c.args.columns.now c.requires.typed in
    let less : c.loop-at.at < length c.args.builders.now.items = search rules in
    omega (arith, less, many)

pub append_all-offset_bounds-columns-at : goal.append_all-offset_bounds-columns-at
append_all-offset_bounds-columns-at t c =
    let many = as_many_builders c.args.builders.now.items c.args.columns.now c.requires.typed in
    let less : c.loop-at.at < length c.args.builders.now.items = search rules in
    let inside : c.loop-at.at < length c.args.columns.now = omega (arith, less, many) in
    search (rules, inside)

pub append_all-append_to-requires : goal.append_all-append_to-requires
append_all-append_to-requires t c =
    let many = as_many_builders c.args.builders.now.items c.args.columns.now c.requires.typed in
    let less : c.loop-at.at < length c.args.builders.now.items = search rules in
    let inside : c.loop-at.at < length c.args.columns.now = omega (arith, less, many) in
    let here : c.index_mut-builder.result.now ≡ get_or c.loop-at.builders.items c.loop-at.at c.index_mut-builder.result.now = search rules in
    let there = here ∙ c.loop-at.invariant.0.1 c.loop-at.at c.index_mut-builder.result.now (omega arith) in
    let same = ap (λ (x : String Global × Column). type_size (dtype_of (column_view x.1))) c.index-columns-at.is in
    let size = column_size c.args.columns.now c.loop-at.at c.index-columns-at.result inside c.index-columns-at.is in (
      omega (arith, size, same, c.decreases),
      (
        sym (ap (λ (x : String Global × Column). dtype_of (column_view x.1)) c.index-columns-at.is)
            ∙ builder_type c.args.builders.now.items c.args.columns.now c.loop-at.at c.index_mut-builder.result.now c.index-columns-at.result c.requires.typed less there inside c.index-columns-at.is,
        (
          c.requires.even.0,
          subst (λ (x : String Global × Column). IsColumn c.requires.even.0 (column_view x.1)) c.index-columns-at.is
              (column_at c.requires.even.0 c.args.columns.now c.loop-at.at c.index-columns-at.result c.requires.even.1 inside c.index-columns-at.is),
        ),
      ),
    )

pub append_all-returns-in_err-append_to-clause-kept : goal.append_all-returns-in_err-append_to-clause-kept
append_all-returns-in_err-append_to-clause-kept t c =
    let less : c.loop-at.at < length c.args.builders.now.items = search rules in
    let here : c.index_mut-builder.result.now ≡ get_or c.loop-at.builders.items c.loop-at.at c.index_mut-builder.result.now = search rules in
    let there = here ∙ c.loop-at.invariant.0.1 c.loop-at.at c.index_mut-builder.result.now (omega arith) in
    fields_keep_set c.loop-at.builders.items c.args.builders.now.items c.loop-at.at c.index_mut-builder.result.now c.append_to.new.builder (omega (arith, less, c.loop-at.invariant.0.0)) here less there
    c.append_to.ensures.kept c.loop-at.invariant.2

pub append_all-loop-at-preserved : goal.append_all-loop-at-preserved
append_all-loop-at-preserved t c =
    let many = as_many_builders c.args.builders.now.items c.args.columns.now c.requires.typed in
    let less : c.loop-at.at < length c.args.builders.now.items = search rules in
    let inside : c.loop-at.at < length c.args.columns.now = omega (arith, less, many) in
    let here : c.index_mut-builder.result.now ≡ get_or c.loop-at.builders.items c.loop-at.at c.index_mut-builder.result.now = search rules in
    let there = here ∙ c.loop-at.invariant.0.1 c.loop-at.at c.index_mut-builder.result.now (omega arith) in
    let below : c.loop-at.at < length c.loop-at.builders.items = omega (arith, less, c.loop-at.invariant.0.0) in (
      search rules,
      append_more c.loop-at.builders.items c.args.columns.now c.loop-at.at c.index_mut-builder.result.now c.append_to.new.builder c.index-columns-at.result below here inside c.index-columns-at.is (search rules)
          ∙ c.loop-at.invariant.1,
      fields_keep_set c.loop-at.builders.items c.args.builders.now.items c.loop-at.at c.index_mut-builder.result.now c.append_to.new.builder below here less there c.append_to.ensures.kept c.loop-at.invariant.2,
    )

pub append_all-returns-clause-ok : goal.append_all-returns-clause-ok
append_all-returns-clause-ok t c =
    let past : length c.loop-at.builders.items ≤ c.loop-at.at = search rules in
    sym (append_end c.loop-at.builders.items _ c.loop-at.at past) ∙ c.loop-at.invariant.1
