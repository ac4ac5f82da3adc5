use Rattle.std.proofs.Common.{◌≡◌, length, map, rules}
use Rattle.vx_rows.specs.Keys.{of_key}
use Rattle.vx_rows.specs.Span.{span}
use Rattle.vx_rows.specs.Truth.{is_true}
use Rattle.vx_rows.specs.Verdicts.{plain_told}
use Rattle.vx_rows.proofs.MeetingLemmas.{met_numbers}
use Rattle.vx_rows.proofs.meeting.meet_numbers_of.Goals as goal

pub returns : goal.returns
returns c =
    let long : c.args.count ≡ length c.args.values.now.rows = search rules in
    let key : of_key c.args.ptype c.in-Some-key_of.key ≡ c.args.literal = search rules in
    let items : c.in_ok-flags.flags.items ≡ map is_true (span (plain_told c.args.verdict c.args.ptype c.in-Some.bytes.now c.in-Some.at (of_key c.args.ptype c.in-Some-key_of.key)) 0 c.args.count) = search rules in
    met_numbers c.args.verdict c.args.ptype c.in-Some.bytes.now c.in-Some.at c.in-Some-key_of.key c.args.literal c.args.values.now c.args.count c.in_ok-flags.flags.items
    c.requires long c.in-Some.ensures.rows key items
