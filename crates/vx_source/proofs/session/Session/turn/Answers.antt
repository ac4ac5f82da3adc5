use Rattle.std.proofs.Common.{◌≤◌, length, arith, refl}
use Rattle.std.proofs.lemmas.Bool.Decides.{nat_tests}
use Rattle.vx_source.proofs.DriveLemmas.{on-err, lost-block, turned-count, none-bad}
use Rattle.vx_source.proofs.InsideLemmas.{block-inside}
use Rattle.vx_source.proofs.PutLemmas.{gains-handed}
use Rattle.vx_source.proofs.session.Session.turn.Goals as goal

pub returns-in_err-append-clause-lost : goal.returns-in_err-append-clause-lost
returns-in_err-append-clause-lost g c =
    let state = g.R.Reader.state in
    on-err c.from_residual-in_err-append.result _ (lost-block c.args.self.now c.in_ok-spans.spans.items c.in_ok-reports.field-0 (state c.args.reader.now) (state c.ask_block.new.reader)
    (rw c.arrange.ensures at c.in_ok-spans.ensures.merge) (rw c.arrange.ensures at c.in_ok-spans.ensures.few) (rw c.as_slice.ensures.value at c.in_ok-reports.ensures.cause))

pub returns-clause-turned : goal.returns-clause-turned
returns-clause-turned g c =
    let state = g.R.Reader.state in
    let cache = g.C.SegmentCache.state in
    let spans = c.in_ok-spans.spans.items in
    let some : 1 ≤ length spans = grind (arith, nat_tests) in
    let len = c.len.ensures in
    turned-count c.args.self.now c.commit.new.self c.args.done.now.items c.append.new.self.items (state c.args.reader.now) (state c.ask_block.new.reader) (cache c.args.cache.now) (cache c.put_all.new.cache) spans c.limit-most.result c.len.result
    c.in_ok-reports.field-0 c.in_ok-reports.field-0.reports.items
    (omega (arith, len))
    c.limit-most.ensures.core
    (rw c.arrange.ensures at c.in_ok-spans.ensures.may some)
    (rw c.arrange.ensures at c.in_ok-spans.ensures.few)
    (rw c.arrange.ensures at c.in_ok-spans.ensures.all)
    (rw c.as_slice.ensures.value at c.in_ok-reports.ensures.cause)
    refl
    (c.in_ok-append.ensures.items)
    (rw (c.as_slice-3.ensures.value, c.arrange.ensures) at c.commit.ensures.after)
    (rw (c.as_slice-3.ensures.value, c.arrange.ensures) at c.commit.ensures.polled)
    (gains-handed _ c.in_ok-puts.puts.items _ _ (rw (c.as_slice-2.ensures.value, c.arrange.ensures) at c.in_ok-puts.ensures) c.put_all.ensures.gains)

pub returns-in_err-puts-clause-lost : goal.returns-in_err-puts-clause-lost
returns-in_err-puts-clause-lost g c =
    let state = g.R.Reader.state in
    on-err c.from_residual-in_err-puts.result _ (lost-block c.args.self.now c.in_ok-spans.spans.items c.in_ok-reports.field-0 (state c.args.reader.now) (state c.ask_block.new.reader)
    (rw c.arrange.ensures at c.in_ok-spans.ensures.merge) (rw c.arrange.ensures at c.in_ok-spans.ensures.few) (rw c.as_slice.ensures.value at c.in_ok-reports.ensures.cause))

pub returns-in_err-reports-clause-steady : goal.returns-in_err-reports-clause-steady
returns-in_err-reports-clause-steady g c = λ file never told inside.
    (rw c.as_slice.ensures.value at c.in_err-reports.ensures.cause).sound file never told (block-inside file c.args.self.now c.in_ok-spans.spans.items inside (rw c.arrange.ensures at c.in_ok-spans.ensures.merge))

pub returns-in_err-puts-clause-steady : goal.returns-in_err-puts-clause-steady
returns-in_err-puts-clause-steady g c = λ file never told inside.
    (rw c.as_slice.ensures.value at c.in_ok-reports.ensures.cause).sound file never told (block-inside file c.args.self.now c.in_ok-spans.spans.items inside (rw c.arrange.ensures at c.in_ok-spans.ensures.merge))

pub returns-in_err-append-clause-steady : goal.returns-in_err-append-clause-steady
returns-in_err-append-clause-steady g c = λ file never told inside.
    (rw c.as_slice.ensures.value at c.in_ok-reports.ensures.cause).sound file never told (block-inside file c.args.self.now c.in_ok-spans.spans.items inside (rw c.arrange.ensures at c.in_ok-spans.ensures.merge))

pub returns-clause-steady : goal.returns-clause-steady
returns-clause-steady g c = λ file never told inside.
    (rw c.as_slice.ensures.value at c.in_ok-reports.ensures.cause).sound file never told (block-inside file c.args.self.now c.in_ok-spans.spans.items inside (rw c.arrange.ensures at c.in_ok-spans.ensures.merge))

pub returns-clause-sound : goal.returns-clause-sound
returns-clause-sound g c = λ file never told inside.
    let asked = (rw c.as_slice.ensures.value at c.in_ok-reports.ensures.cause) in
    none-bad c.args.done.now.items c.in_ok-reports.field-0.reports.items c.append.new.self.items c.in_ok-append.ensures.items
    (asked.complete file never told (block-inside file c.args.self.now c.in_ok-spans.spans.items inside (rw c.arrange.ensures at c.in_ok-spans.ensures.merge)))
