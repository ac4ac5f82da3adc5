use Rattle.std.proofs.Common.{[], ◌∷◌}
use Rattle.vx_source.specs.Fits.{driven}
use Rattle.vx_source.specs.History.{moment, stops}
use Rattle.vx_source.specs.declared.reply.Reply.TheVariants.{Driven}
use Rattle.vx_source.proofs.DriveLemmas.{on-err}
use Rattle.vx_source.proofs.FetchLemmas.{waits-now, polls-whole, fetches-now, stops-again}
use Rattle.vx_source.proofs.AnswerLemmas.{answers-now, faults-now, slices-now, failures-now, ready-all}
use Rattle.vx_source.proofs.session.Session.segments.Goals as goal

pub returns-in_err-registered-clause-stands : goal.returns-in_err-registered-clause-stands
returns-in_err-registered-clause-stands g c = λ w past st.
    let s = c.in_err-registered.ensures.stopped w past st in
    (s.3.now, s.3.stands)

pub returns-in_err-polled-clause-stands : goal.returns-in_err-polled-clause-stands
returns-in_err-polled-clause-stands g c = λ w past st.
    let registered = c.in_ok-registered.ensures.registered w past st in
    let s = c.in_err-polled.ensures.stopped w registered.now registered.stands in
    (s.2.now, s.2.stands)

pub returns-in_err-spans-clause-stands : goal.returns-in_err-spans-clause-stands
returns-in_err-spans-clause-stands g c = λ w past st.
    let cache = g.C.SegmentCache.state in
    let registered = c.in_ok-registered.ensures.registered w past st in
    let waits = waits-now w past (cache c.args.cache.now) (cache c.register_all.new.cache) c.args.ids.now c.in_ok-registered.registered.items c.in_ok-polled.polled.items c.register_all.new.session c.poll_all.new.session
    registered (λ a s. c.in_ok-polled.ensures.polled w a s) in
    let s = c.in_err-spans.ensures.stopped w waits.waiting waits.stands in
    (moment stops (Driven s.spans) ∷ waits.waiting, s.next.stands)

pub returns-in_err-last-clause-stands : goal.returns-in_err-last-clause-stands
returns-in_err-last-clause-stands g c = λ w past st.
    let cache = g.C.SegmentCache.state in
    let registered = c.in_ok-registered.ensures.registered w past st in
    let waits = waits-now w past (cache c.args.cache.now) (cache c.register_all.new.cache) c.args.ids.now c.in_ok-registered.registered.items c.in_ok-polled.polled.items c.register_all.new.session c.poll_all.new.session
    registered (λ a s. c.in_ok-polled.ensures.polled w a s) in
    let driving = c.in_ok-spans.ensures.driven w waits.waiting waits.stands in
    let s = c.in_err-last.ensures.stopped w (driven c.in_ok-spans.spans.items waits.waiting) driving.stands in
    (s.2.now, s.2.stands)

pub returns-in_err-replies-clause-stands : goal.returns-in_err-replies-clause-stands
returns-in_err-replies-clause-stands g c = λ w past st.
    let cache = g.C.SegmentCache.state in
    let registered = c.in_ok-registered.ensures.registered w past st in
    let waits = waits-now w past (cache c.args.cache.now) (cache c.register_all.new.cache) c.args.ids.now c.in_ok-registered.registered.items c.in_ok-polled.polled.items c.register_all.new.session c.poll_all.new.session
    registered (λ a s. c.in_ok-polled.ensures.polled w a s) in
    let driving = c.in_ok-spans.ensures.driven w waits.waiting waits.stands in
    let p = c.in_ok-last.ensures.polled w (driven c.in_ok-spans.spans.items waits.waiting) driving.stands in
    (p.now, p.stands)

pub returns-clause-stands : goal.returns-clause-stands
returns-clause-stands g c = λ w past st.
    let cache = g.C.SegmentCache.state in
    let registered = c.in_ok-registered.ensures.registered w past st in
    let waits = waits-now w past (cache c.args.cache.now) (cache c.register_all.new.cache) c.args.ids.now c.in_ok-registered.registered.items c.in_ok-polled.polled.items c.register_all.new.session c.poll_all.new.session
    registered (λ a s. c.in_ok-polled.ensures.polled w a s) in
    let driving = c.in_ok-spans.ensures.driven w waits.waiting waits.stands in
    let p = c.in_ok-last.ensures.polled w (driven c.in_ok-spans.spans.items waits.waiting) driving.stands in
    (p.now, p.stands)

pub returns-in_err-registered-clause-bytes : goal.returns-in_err-registered-clause-bytes
returns-in_err-registered-clause-bytes g c = λ w past file told st h t. c.in_err-registered.ensures.bytes w past file st h t

pub returns-in_err-polled-clause-bytes : goal.returns-in_err-polled-clause-bytes
returns-in_err-polled-clause-bytes g c = λ w past file told st h t.
    let registered = c.in_ok-registered.ensures.registered w past st in
    let kept = c.in_ok-registered.ensures.bytes w past file st h t in
    (c.in_err-polled.ensures.bytes w registered.now file registered.stands kept.0, kept.1)

pub returns-in_err-spans-clause-bytes : goal.returns-in_err-spans-clause-bytes
returns-in_err-spans-clause-bytes g c = λ w past file told st h t.
    let cache = g.C.SegmentCache.state in
    let registered = c.in_ok-registered.ensures.registered w past st in
    let waits = waits-now w past (cache c.args.cache.now) (cache c.register_all.new.cache) c.args.ids.now c.in_ok-registered.registered.items c.in_ok-polled.polled.items c.register_all.new.session c.poll_all.new.session
    registered (λ a s. c.in_ok-polled.ensures.polled w a s) in
    let kept = c.in_ok-registered.ensures.bytes w past file st h t in
    let polled = c.in_ok-polled.ensures.bytes w registered.now file registered.stands kept.0 in
    (c.in_err-spans.ensures.bytes w waits.waiting file told waits.stands polled, c.in_err-spans.ensures.slices w waits.waiting file told waits.stands polled kept.1)

pub returns-in_err-last-clause-bytes : goal.returns-in_err-last-clause-bytes
returns-in_err-last-clause-bytes g c = λ w past file told st h t.
    let cache = g.C.SegmentCache.state in
    let registered = c.in_ok-registered.ensures.registered w past st in
    let waits = waits-now w past (cache c.args.cache.now) (cache c.register_all.new.cache) c.args.ids.now c.in_ok-registered.registered.items c.in_ok-polled.polled.items c.register_all.new.session c.poll_all.new.session
    registered (λ a s. c.in_ok-polled.ensures.polled w a s) in
    let driving = c.in_ok-spans.ensures.driven w waits.waiting waits.stands in
    let kept = c.in_ok-registered.ensures.bytes w past file st h t in
    let polled = c.in_ok-polled.ensures.bytes w registered.now file registered.stands kept.0 in
    let bytes = c.in_ok-spans.ensures.bytes w waits.waiting file told waits.stands polled in
    let slices = c.in_ok-spans.ensures.slices w waits.waiting file told waits.stands polled kept.1 in
    (c.in_err-last.ensures.bytes w (driven c.in_ok-spans.spans.items waits.waiting) file driving.stands bytes, slices)

pub returns-in_err-replies-clause-bytes : goal.returns-in_err-replies-clause-bytes
returns-in_err-replies-clause-bytes g c = λ w past file told st h t.
    let cache = g.C.SegmentCache.state in
    let registered = c.in_ok-registered.ensures.registered w past st in
    let waits = waits-now w past (cache c.args.cache.now) (cache c.register_all.new.cache) c.args.ids.now c.in_ok-registered.registered.items c.in_ok-polled.polled.items c.register_all.new.session c.poll_all.new.session
    registered (λ a s. c.in_ok-polled.ensures.polled w a s) in
    let driving = c.in_ok-spans.ensures.driven w waits.waiting waits.stands in
    let kept = c.in_ok-registered.ensures.bytes w past file st h t in
    let polled = c.in_ok-polled.ensures.bytes w registered.now file registered.stands kept.0 in
    let bytes = c.in_ok-spans.ensures.bytes w waits.waiting file told waits.stands polled in
    let slices = c.in_ok-spans.ensures.slices w waits.waiting file told waits.stands polled kept.1 in
    (c.in_ok-last.ensures.bytes w (driven c.in_ok-spans.spans.items waits.waiting) file driving.stands bytes, slices)

pub returns-clause-bytes : goal.returns-clause-bytes
returns-clause-bytes g c = λ w past file told st h t.
    let cache = g.C.SegmentCache.state in
    let registered = c.in_ok-registered.ensures.registered w past st in
    let waits = waits-now w past (cache c.args.cache.now) (cache c.register_all.new.cache) c.args.ids.now c.in_ok-registered.registered.items c.in_ok-polled.polled.items c.register_all.new.session c.poll_all.new.session
    registered (λ a s. c.in_ok-polled.ensures.polled w a s) in
    let driving = c.in_ok-spans.ensures.driven w waits.waiting waits.stands in
    let kept = c.in_ok-registered.ensures.bytes w past file st h t in
    let polled = c.in_ok-polled.ensures.bytes w registered.now file registered.stands kept.0 in
    let bytes = c.in_ok-spans.ensures.bytes w waits.waiting file told waits.stands polled in
    let slices = c.in_ok-spans.ensures.slices w waits.waiting file told waits.stands polled kept.1 in
    (c.in_ok-last.ensures.bytes w (driven c.in_ok-spans.spans.items waits.waiting) file driving.stands bytes, slices)

pub returns-in_err-last-clause-stopped : goal.returns-in_err-last-clause-stopped
returns-in_err-last-clause-stopped g c = on-err c.from_residual-in_err-last.result _ (λ w past st.
    let reader = g.R.Reader.state in
    let cache = g.C.SegmentCache.state in
    let registered = c.in_ok-registered.ensures.registered w past st in
    let waits = waits-now w past (cache c.args.cache.now) (cache c.register_all.new.cache) c.args.ids.now c.in_ok-registered.registered.items c.in_ok-polled.polled.items c.register_all.new.session c.poll_all.new.session
    registered (λ a s. c.in_ok-polled.ensures.polled w a s) in
    let driving = c.in_ok-spans.ensures.driven w waits.waiting waits.stands in
    stops-again w past (cache c.args.cache.now) (cache c.register_all.new.cache) (cache c.drive.new.cache) c.args.ids.now c.in_ok-registered.registered.items c.in_ok-polled.polled.items c.poll_all.new.session waits (reader c.args.reader.now).log (reader c.drive.new.reader).log
    c.in_ok-spans.spans.items c.drive.new.self c.poll_all-2.new.session driving (c.in_ok-spans.ensures.puts w waits.waiting waits.stands) c.in_ok-spans.ensures.log
    (c.in_err-last.ensures.stopped w (driven c.in_ok-spans.spans.items waits.waiting) driving.stands))

pub returns-in_err-replies-clause-stopped : goal.returns-in_err-replies-clause-stopped
returns-in_err-replies-clause-stopped g c = on-err c.from_residual-in_err-replies.result _ (λ w past st.
    let reader = g.R.Reader.state in
    let cache = g.C.SegmentCache.state in
    let registered = c.in_ok-registered.ensures.registered w past st in
    let waits = waits-now w past (cache c.args.cache.now) (cache c.register_all.new.cache) c.args.ids.now c.in_ok-registered.registered.items c.in_ok-polled.polled.items c.register_all.new.session c.poll_all.new.session
    registered (λ a s. c.in_ok-polled.ensures.polled w a s) in
    let driving = c.in_ok-spans.ensures.driven w waits.waiting waits.stands in
    stops-again w past (cache c.args.cache.now) (cache c.register_all.new.cache) (cache c.drive.new.cache) c.args.ids.now c.in_ok-registered.registered.items c.in_ok-polled.polled.items c.poll_all.new.session waits (reader c.args.reader.now).log (reader c.drive.new.reader).log
    c.in_ok-spans.spans.items c.drive.new.self c.poll_all-2.new.session driving (c.in_ok-spans.ensures.puts w waits.waiting waits.stands) c.in_ok-spans.ensures.log
    ([], c.in_ok-last.last.items, c.in_ok-last.ensures.polled w (driven c.in_ok-spans.spans.items waits.waiting) driving.stands))

pub returns-clause-fetches : goal.returns-clause-fetches
returns-clause-fetches g c = λ w past st.
    let cache = g.C.SegmentCache.state in
    let registered = c.in_ok-registered.ensures.registered w past st in
    let waits = waits-now w past (cache c.args.cache.now) (cache c.register_all.new.cache) c.args.ids.now c.in_ok-registered.registered.items c.in_ok-polled.polled.items c.register_all.new.session c.poll_all.new.session
    registered (λ a s. c.in_ok-polled.ensures.polled w a s) in
    let driving = c.in_ok-spans.ensures.driven w waits.waiting waits.stands in
    rw c.from_vec.ensures
    (fetches-now w past (cache c.args.cache.now) (cache c.register_all.new.cache) (cache c.drive.new.cache) c.args.ids.now c.in_ok-registered.registered.items c.in_ok-polled.polled.items c.poll_all.new.session waits c.in_ok-last.last.items
    (record { replies = c.in_ok-replies.replies; spans = c.in_ok-spans.spans.items }) c.drive.new.self c.poll_all-2.new.session driving (c.in_ok-spans.ensures.puts w waits.waiting waits.stands)
    (c.in_ok-last.ensures.polled w (driven c.in_ok-spans.spans.items waits.waiting) driving.stands) c.in_ok-replies.ensures)

pub returns-clause-answers : goal.returns-clause-answers
returns-clause-answers g c = λ w past st.
    let cache = g.C.SegmentCache.state in
    let registered = c.in_ok-registered.ensures.registered w past st in
    let waits = waits-now w past (cache c.args.cache.now) (cache c.register_all.new.cache) c.args.ids.now c.in_ok-registered.registered.items c.in_ok-polled.polled.items c.register_all.new.session c.poll_all.new.session
    registered (λ a s. c.in_ok-polled.ensures.polled w a s) in
    let driving = c.in_ok-spans.ensures.driven w waits.waiting waits.stands in
    let p = c.in_ok-last.ensures.polled w (driven c.in_ok-spans.spans.items waits.waiting) driving.stands in
    let again = polls-whole w (driven c.in_ok-spans.spans.items waits.waiting) c.in_ok-polled.polled.items c.in_ok-last.last.items c.poll_all-2.new.session p in
    rw (c.in_ok-replies.ensures, c.from_vec.ensures) (answers-now w past (cache c.args.cache.now) (cache c.register_all.new.cache) c.args.ids.now c.in_ok-registered.registered.items c.in_ok-polled.polled.items c.poll_all.new.session c.args.self.now st waits c.in_ok-spans.spans.items c.drive.new.self driving c.in_ok-last.last.items p.now again)

pub returns-clause-faults : goal.returns-clause-faults
returns-clause-faults g c = λ w past st.
    let cache = g.C.SegmentCache.state in
    let registered = c.in_ok-registered.ensures.registered w past st in
    let waits = waits-now w past (cache c.args.cache.now) (cache c.register_all.new.cache) c.args.ids.now c.in_ok-registered.registered.items c.in_ok-polled.polled.items c.register_all.new.session c.poll_all.new.session
    registered (λ a s. c.in_ok-polled.ensures.polled w a s) in
    let driving = c.in_ok-spans.ensures.driven w waits.waiting waits.stands in
    let p = c.in_ok-last.ensures.polled w (driven c.in_ok-spans.spans.items waits.waiting) driving.stands in
    let again = polls-whole w (driven c.in_ok-spans.spans.items waits.waiting) c.in_ok-polled.polled.items c.in_ok-last.last.items c.poll_all-2.new.session p in
    rw (c.in_ok-replies.ensures, c.from_vec.ensures) (faults-now w past (cache c.args.cache.now) (cache c.register_all.new.cache) c.args.ids.now c.in_ok-registered.registered.items c.in_ok-polled.polled.items c.poll_all.new.session c.args.self.now st waits c.in_ok-spans.spans.items c.drive.new.self driving c.in_ok-last.last.items p.now again)

pub returns-clause-ready : goal.returns-clause-ready
returns-clause-ready g c = λ w past st.
    let cache = g.C.SegmentCache.state in
    let registered = c.in_ok-registered.ensures.registered w past st in
    let waits = waits-now w past (cache c.args.cache.now) (cache c.register_all.new.cache) c.args.ids.now c.in_ok-registered.registered.items c.in_ok-polled.polled.items c.register_all.new.session c.poll_all.new.session
    registered (λ a s. c.in_ok-polled.ensures.polled w a s) in
    let driving = c.in_ok-spans.ensures.driven w waits.waiting waits.stands in
    let p = c.in_ok-last.ensures.polled w (driven c.in_ok-spans.spans.items waits.waiting) driving.stands in
    let again = polls-whole w (driven c.in_ok-spans.spans.items waits.waiting) c.in_ok-polled.polled.items c.in_ok-last.last.items c.poll_all-2.new.session p in
    ready-all w.table c.from_vec.result c.args.ids.now c.in_ok-replies.replies (rw (c.in_ok-replies.ensures, c.from_vec.ensures) (answers-now w past (cache c.args.cache.now) (cache c.register_all.new.cache) c.args.ids.now c.in_ok-registered.registered.items c.in_ok-polled.polled.items c.poll_all.new.session c.args.self.now st waits c.in_ok-spans.spans.items c.drive.new.self driving c.in_ok-last.last.items p.now again))

pub returns-clause-failures : goal.returns-clause-failures
returns-clause-failures g c = λ w past st.
    let cache = g.C.SegmentCache.state in
    let registered = c.in_ok-registered.ensures.registered w past st in
    let waits = waits-now w past (cache c.args.cache.now) (cache c.register_all.new.cache) c.args.ids.now c.in_ok-registered.registered.items c.in_ok-polled.polled.items c.register_all.new.session c.poll_all.new.session
    registered (λ a s. c.in_ok-polled.ensures.polled w a s) in
    let driving = c.in_ok-spans.ensures.driven w waits.waiting waits.stands in
    let p = c.in_ok-last.ensures.polled w (driven c.in_ok-spans.spans.items waits.waiting) driving.stands in
    let again = polls-whole w (driven c.in_ok-spans.spans.items waits.waiting) c.in_ok-polled.polled.items c.in_ok-last.last.items c.poll_all-2.new.session p in
    rw c.in_ok-replies.ensures (failures-now w past (cache c.args.cache.now) (cache c.register_all.new.cache) c.args.ids.now c.in_ok-registered.registered.items c.in_ok-polled.polled.items c.poll_all.new.session c.args.self.now st waits c.in_ok-spans.spans.items c.drive.new.self driving c.in_ok-last.last.items p.now again (cache c.drive.new.cache) c.in_ok-spans.ensures.same_cache.never_falls)

pub returns-clause-slices : goal.returns-clause-slices
returns-clause-slices g c = λ w past file told st h t.
    let cache = g.C.SegmentCache.state in
    let registered = c.in_ok-registered.ensures.registered w past st in
    let waits = waits-now w past (cache c.args.cache.now) (cache c.register_all.new.cache) c.args.ids.now c.in_ok-registered.registered.items c.in_ok-polled.polled.items c.register_all.new.session c.poll_all.new.session
    registered (λ a s. c.in_ok-polled.ensures.polled w a s) in
    let driving = c.in_ok-spans.ensures.driven w waits.waiting waits.stands in
    let kept = c.in_ok-registered.ensures.bytes w past file st h t in
    let polled = c.in_ok-polled.ensures.bytes w registered.now file registered.stands kept.0 in
    let bytes = c.in_ok-spans.ensures.bytes w waits.waiting file told waits.stands polled in
    let p = c.in_ok-last.ensures.polled w (driven c.in_ok-spans.spans.items waits.waiting) driving.stands in
    let again = polls-whole w (driven c.in_ok-spans.spans.items waits.waiting) c.in_ok-polled.polled.items c.in_ok-last.last.items c.poll_all-2.new.session p in
    rw c.in_ok-replies.ensures (slices-now w past (cache c.args.cache.now) (cache c.register_all.new.cache) c.args.ids.now c.in_ok-registered.registered.items c.in_ok-polled.polled.items c.poll_all.new.session c.args.self.now st waits c.in_ok-spans.spans.items c.drive.new.self driving c.in_ok-last.last.items p.now again file (c.in_ok-polled.ensures.slices w registered.now file registered.stands kept.0)
    (c.in_ok-last.ensures.slices w (driven c.in_ok-spans.spans.items waits.waiting) file driving.stands bytes))

pub returns-clause-steady : goal.returns-clause-steady
returns-clause-steady g c = λ w past file never told st inside.
    let cache = g.C.SegmentCache.state in
    let registered = c.in_ok-registered.ensures.registered w past st in
    let waits = waits-now w past (cache c.args.cache.now) (cache c.register_all.new.cache) c.args.ids.now c.in_ok-registered.registered.items c.in_ok-polled.polled.items c.register_all.new.session c.poll_all.new.session
    registered (λ a s. c.in_ok-polled.ensures.polled w a s) in
    c.in_ok-spans.ensures.steady w waits.waiting file never told waits.stands inside

pub returns-clause-sound : goal.returns-clause-sound
returns-clause-sound g c = λ w past file never told st inside.
    let cache = g.C.SegmentCache.state in
    let registered = c.in_ok-registered.ensures.registered w past st in
    let waits = waits-now w past (cache c.args.cache.now) (cache c.register_all.new.cache) c.args.ids.now c.in_ok-registered.registered.items c.in_ok-polled.polled.items c.register_all.new.session c.poll_all.new.session
    registered (λ a s. c.in_ok-polled.ensures.polled w a s) in
    rw c.from_vec.ensures (c.in_ok-spans.ensures.sound w waits.waiting file never told waits.stands inside)
