use Rattle.std.proofs.Common.{◌∙◌, drop, refl, arith}
use Rattle.vx_base.specs.Caches.{same_cache, same_cache-then}
use Rattle.vx_source.proofs.DriveLemmas.{on-err}
use Rattle.vx_source.proofs.FetchLemmas.{registers-none, registers-one}
use Rattle.vx_source.proofs.fetching.register_all.Goals as goal

pub loop-id-init : goal.loop-id-init
loop-id-init g c =
    let cache = g.C.SegmentCache.state in
    record {
      registered = λ w past st. rw c.new-fetches.ensures.items (registers-none w past (cache c.args.cache.now) c.args.ids.now c.args.session.now st);
      bytes = λ w past file st h t. (h, t);
      settings = refl;
      room = omega arith;
      same = same_cache (cache c.args.cache.now);
    }

pub loop-id-preserved : goal.loop-id-preserved
loop-id-preserved g c =
    let cache = g.C.SegmentCache.state in
    let i = c.loop-id.invariant in
    let e = c.in_ok-reply.ensures in
    let room = i.room in
    let made = e.room in
    record {
      registered = λ w past st. rw (c.in_ok-push.ensures.items, c.at_register.ensures)
          (registers-one w past (cache c.args.cache.now) (cache c.loop-id.cache) (cache c.register.new.cache) c.args.ids.now c.loop-id.id-index (record { 0 = 0 }) c.loop-id.fetches.items c.loop-id.session c.register.new.self
          c.in_ok-reply.reply (omega arith) (i.registered w past st) (λ h s. e.registers w h s));
      bytes = λ w past file st h t.
          let b = i.bytes w past file st h t in
          let s = (i.registered w past st).stands in
          (e.bytes w (i.registered w past st).now file s b.0 (rw s.table b.1), e.slices file w.table b.1);
      settings = e.settings ∙ i.settings;
      room = omega (arith, room, made);
      same = same_cache-then (cache c.args.cache.now) (cache c.loop-id.cache) (cache c.register.new.cache) i.same e.same;
    }

pub returns-in_err-reply-clause-stopped : goal.returns-in_err-reply-clause-stopped
returns-in_err-reply-clause-stopped g c = on-err c.from_residual.result _ (λ w past st.
    let cache = g.C.SegmentCache.state in
    rw c.in_err-reply.ensures.err (cache c.loop-id.cache, drop c.loop-id.id-index c.args.ids.now, c.loop-id.fetches.items, c.loop-id.invariant.registered w past st))

pub returns-in_err-reply-clause-bytes : goal.returns-in_err-reply-clause-bytes
returns-in_err-reply-clause-bytes g c = λ w past file st h t.
    let b = c.loop-id.invariant.bytes w past file st h t in
    (rw c.in_err-reply.ensures.err b.0, c.in_err-reply.ensures.slices file w.table b.1)

pub returns-in_err-push-clause-stopped : goal.returns-in_err-push-clause-stopped
returns-in_err-push-clause-stopped g c = on-err c.from_residual-in_err-push.result _ (λ w past st.
    let cache = g.C.SegmentCache.state in
    let i = c.loop-id.invariant in (
      cache c.register.new.cache,
      _,
      _,
      registers-one w past (cache c.args.cache.now) (cache c.loop-id.cache) (cache c.register.new.cache) c.args.ids.now c.loop-id.id-index (record { 0 = 0 }) c.loop-id.fetches.items c.loop-id.session c.register.new.self
          c.in_ok-reply.reply (omega arith) (i.registered w past st) (λ h s. c.in_ok-reply.ensures.registers w h s),
    ))

pub returns-in_err-push-clause-bytes : goal.returns-in_err-push-clause-bytes
returns-in_err-push-clause-bytes g c = λ w past file st h t.
    let i = c.loop-id.invariant in
    let e = c.in_ok-reply.ensures in
    let b = i.bytes w past file st h t in
    let s = (i.registered w past st).stands in
    (e.bytes w (i.registered w past st).now file s b.0 (rw s.table b.1), e.slices file w.table b.1)
