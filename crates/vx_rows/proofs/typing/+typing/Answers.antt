use Rattle.std.proofs.Common.{◌≡◌, ◌≤◌, List, length, sym, ◌∙◌, rules, arith}
use Rattle.std.proofs.lemmas.List.{at_drop_all}
use Rattle.std.specs.Global.{Global}
use Rattle.std.specs.Prelude.{String, string_bytes}
use Rattle.vx_rows.specs.declared.column.Column.{Column}
use Rattle.vx_rows.specs.Rows.{pairs_view, types_of}
use Rattle.vx_rows.proofs.TypingLemmas.{before_types, before_none, next_type}
use Rattle.vx_rows.proofs.typing.+typing.Goals as goal

pub type_all-loop-at-preserved : goal.type_all-loop-at-preserved
type_all-loop-at-preserved t c =
    let name : string_bytes c.in_ok-clone.field-0 ≡ string_bytes c.index-columns-at.result.0 = search rules in
    next_type c.args.columns.now c.loop-at.at c.index-columns-at.result c.loop-at.types.items c.push.new.self.items c.in_ok-clone.field-0 c.in_ok-type_one.field-0
    c.loop-at-test.true c.index-columns-at.is c.in_ok-push.ensures.items name c.in_ok-type_one.ensures ∙ c.loop-at.invariant

pub type_all-returns : goal.type_all-returns
type_all-returns t c =
    let past : length c.args.columns.now ≤ c.loop-at.at = omega arith in
    sym (before_none c.loop-at.types.items)
    ∙ sym (at_drop_all (λ (xs : List (String Global × Column)). before_types c.loop-at.types.items (types_of (pairs_view xs))) c.args.columns.now c.loop-at.at past)
    ∙ c.loop-at.invariant
