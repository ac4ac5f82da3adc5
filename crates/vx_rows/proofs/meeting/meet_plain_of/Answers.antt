use Rattle.std.proofs.Common.{◌≡◌, ◌≤◌, ◌+◌, ◌∙◌, ◌++◌, ◌∷◌, [], ap, sym, rules, to_z, of_z, vec_len, vec_capacity}
use Rattle.std.specs.Int.{w64}
use Rattle.std.specs.Ordering.{int_cmp}
use Rattle.vx_rows.specs.Keys.{of_key}
use Rattle.vx_rows.specs.Truth.{is_true}
use Rattle.vx_rows.specs.Verdicts.{by_order, plain_told}
use Rattle.vx_rows.proofs.MeetingLemmas.{met_more, met_key}
use Rattle.vx_rows.proofs.meeting.meet_plain_of.Goals as goal

pub loop-row-preserved : goal.loop-row-preserved
loop-row-preserved c =
    let key = to_z w64 (of_z w64 c.args.key) in
    let fits : key ≡ c.args.key = search rules in
    let items : c.push_reserved.new.self.items ≡ c.loop-row.flags.items ++ c.at_key.result ∷ [] = search rules in
    let room : vec_len c.push_reserved.new.self + c.args.count ≤ vec_capacity c.push_reserved.new.self + (c.loop-row.row + 1) = search rules in
    let next : c.loop-row.row + 1 ≤ c.args.count = search rules in
    let told = plain_told c.args.verdict c.args.ptype c.args.bytes.now c.args.at (of_key c.args.ptype key) in
    let by_key : c.at_key.result ≡ by_order c.args.verdict (int_cmp c.plain_key-here.result c.args.key) = search rules in
    let here = by_key ∙ met_key c.args.verdict c.args.ptype c.args.bytes.now c.args.at c.plain_key-here.result c.args.key c.loop-row.row c.plain_key-here.ensures
    ∙ ap (λ k. is_true (plain_told c.args.verdict c.args.ptype c.args.bytes.now c.args.at (of_key c.args.ptype k) c.loop-row.row)) (sym fits) in
    (met_more told c.loop-row.row c.loop-row.flags.items c.push_reserved.new.self.items c.at_key.result c.loop-row.invariant.0 items here, room, next)
