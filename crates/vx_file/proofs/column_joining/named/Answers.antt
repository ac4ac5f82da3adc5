use Rattle.std.proofs.Common.{◌≡◌, ◌∷◌, ◌++◌, [], ◌≤◌, ◌<◌, ◌+◌, length, drop, rules, ap, sym, ◌∙◌, subst, arith}
use Rattle.std.specs.Prelude.{string_bytes}
use Rattle.vx_data.specs.Dtype.{field, dtype_view, pairs_view as types_view}
use Rattle.vx_rows.specs.Rows.{column_view, viewed}
use Rattle.vx_file.specs.Scans.{seen}
use Rattle.vx_file.proofs.JoiningLemmas.{Names, names_none, names_next, names_more, names_left, names_end, viewed_last}
use Rattle.vx_file.proofs.column_joining.named.Goals as goal

pub loop-at-init : goal.loop-at-init
loop-at-init c =
    subst (λ ns. Names (types_view c.args.fields.now) (types_view c.args.fields.now) (seen c.args.columns.rest.items) (seen c.args.columns.rest.items) (viewed ns)) (sym c.new-named.ensures.items)
    (names_none (types_view c.args.fields.now) (seen c.args.columns.rest.items) c.requires)

pub unreachable-requires : goal.unreachable-requires
unreachable-requires c =
    let inside : c.loop-at.at < length c.args.fields.now = search rules in
    let none : length c.loop-at.columns.rest.items ≡ 0 = omega (arith, c.in_default.ensures.cases) in
    let here = names_next (types_view c.args.fields.now) c.args.fields.now c.loop-at.at c.index-fields-at.result (seen c.args.columns.rest.items) (seen c.loop-at.columns.rest.items) (viewed c.loop-at.named.items) inside c.index-fields-at.is c.loop-at.invariant in
    names_left (types_view c.args.fields.now) (types_view (drop (c.loop-at.at + 1) c.args.fields.now)) (seen c.args.columns.rest.items) c.loop-at.columns.rest.items (viewed c.loop-at.named.items)
    (string_bytes c.index-fields-at.result.0) (dtype_view c.index-fields-at.result.1) none here

pub loop-at-preserved : goal.loop-at-preserved
loop-at-preserved c =
    let inside : c.loop-at.at < length c.args.fields.now = search rules in
    let next : c.loop-at.columns.rest.items ≡ c.in-Some.column ∷ c.next.new.self.rest.items = search rules in
    let name : string_bytes c.in_ok-clone.field-0 ≡ string_bytes c.index-fields-at.result.0 = search rules in
    let pushed : viewed c.push.new.self.items ≡ viewed c.loop-at.named.items ++ (c.in_ok-clone.field-0, column_view c.in-Some.column) ∷ [] = ap viewed c.in_ok-push.ensures.items ∙ viewed_last c.loop-at.named.items c.in_ok-clone.field-0 c.in-Some.column in
    let here = names_next (types_view c.args.fields.now) c.args.fields.now c.loop-at.at c.index-fields-at.result (seen c.args.columns.rest.items) (seen c.loop-at.columns.rest.items) (viewed c.loop-at.named.items) inside c.index-fields-at.is c.loop-at.invariant in
    names_more (types_view c.args.fields.now) (types_view (drop (c.loop-at.at + 1) c.args.fields.now)) (seen c.args.columns.rest.items) (seen c.next.new.self.rest.items) (viewed c.loop-at.named.items) (viewed c.push.new.self.items)
    (string_bytes c.index-fields-at.result.0) c.in_ok-clone.field-0 (dtype_view c.index-fields-at.result.1) (column_view c.in-Some.column)
    (subst (λ left. Names (types_view c.args.fields.now) (field (string_bytes c.index-fields-at.result.0) (dtype_view c.index-fields-at.result.1) (types_view (drop (c.loop-at.at + 1) c.args.fields.now))) (seen c.args.columns.rest.items) (seen left) (viewed c.loop-at.named.items)) next here)
    name pushed

pub returns : goal.returns
returns c =
    let past : length c.args.fields.now ≤ c.loop-at.at = search rules in
    names_end (types_view c.args.fields.now) c.args.fields.now c.loop-at.at (seen c.args.columns.rest.items) (seen c.loop-at.columns.rest.items) (viewed c.loop-at.named.items) past c.loop-at.invariant
