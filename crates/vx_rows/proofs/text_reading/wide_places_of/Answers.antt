use Rattle.std.proofs.Common.{◌≡◌, rules, subst, arith}
use Rattle.vx_data.specs.declared.ptype.PType.TheVariants.{U32}
use Rattle.vx_rows.specs.Columns.{raw_at, value_place}
use Rattle.vx_rows.proofs.TextLemmas.{SoFar, so_far_step, so_far_past, so_far_end}
use Rattle.vx_rows.proofs.text_reading.wide_places_of.Goals as goal

pub returns-then-size-bytes-clause-none : goal.returns-then-size-bytes-clause-none
returns-then-size-bytes-clause-none c =
    let size : c.u32_at-size.result ≡ raw_at U32 c.args.bytes.now (value_place U32 c.args.at c.loop-row.row) = search rules in
    let inside = c.loop-row.invariant.inside in
    so_far_past c.args.bytes.now c.args.at (value_place U32 c.args.at c.args.rows) c.loop-row.row c.args.rows c.loop-row.place c.u32_at-size.result c.loop-row.places
    c.loop-row.invariant size (omega (arith, c.if-size-bytes.true)) c.loop-row-test.true

pub loop-row-preserved : goal.loop-row-preserved
loop-row-preserved c =
    let size : c.u32_at-size.result ≡ raw_at U32 c.args.bytes.now (value_place U32 c.args.at c.loop-row.row) = search rules in
    let inside = c.loop-row.invariant.inside in
    so_far_step c.args.bytes.now c.args.at (value_place U32 c.args.at c.args.rows) c.loop-row.row c.loop-row.place c.u32_at-size.result c.loop-row.places _
    c.loop-row.invariant size (omega (arith, c.if-size-bytes.false)) c.in_ok-push-2.ensures.ok

pub returns-clause-ranges : goal.returns-clause-ranges
returns-clause-ranges c =
    let all : c.loop-row.row ≡ c.args.rows = omega arith in
    so_far_end c.args.rows c.args.bytes.now c.args.at c.loop-row.place c.loop-row.places
    (subst (λ r. SoFar c.args.bytes.now c.args.at (value_place U32 c.args.at c.args.rows) r c.loop-row.place c.loop-row.places) all c.loop-row.invariant)
