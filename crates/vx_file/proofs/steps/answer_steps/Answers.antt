use Rattle.std.proofs.Common.{◌∙◌, [], arith, ap, length}
use Rattle.vx_base.specs.Caches.{same_cache-then}
use Rattle.vx_base.specs.Readers.{same_reader-then}
use Rattle.vx_file.specs.StepsLeft.{steps_left}
use Rattle.vx_file.proofs.Answering.{on-err, nothing-stops, answering-starts, answering-turn, answering-stops}
use Rattle.vx_file.proofs.steps.answer_steps.Goals as goal

pub loop-step-preserved : goal.loop-step-preserved
loop-step-preserved g c =
    let state = g.R.Reader.state in
    let cache = g.C.SegmentCache.state in
    let i = c.loop-step.invariant in
    let e = c.in_ok-reply.ensures in
    let room = i.room in
    let made = e.made in
    let left = ap length c.in-Some.ensures.steps in
    record {
      answering = λ w st. rw c.in_ok-push.ensures.ok
          (answering-turn w (steps_left c.args.steps) c.args.session.now (steps_left c.loop-step.step-iterator) (steps_left c.next.new.self)
          c.in-Some.step (state c.args.reader.now) (state c.loop-step.reader) (state c.answer_step.new.reader)
          (cache c.args.cache.now) (cache c.loop-step.cache) (cache c.answer_step.new.cache) c.loop-step.replies c.loop-step.session
          c.answer_step.new.session c.in_ok-reply.reply c.in-Some.ensures.steps
          (i.answering w st) e.same_cache (λ past st_now. e.answered w past st_now) (λ past file told st_now h t. e.stays w past file (i.same.bytes ∙ told) st_now h t));
      steady = λ w file never told st inside.
          e.steady w (i.answering w st).history file (i.same.never_fails ∙ never) (i.same.bytes ∙ told) (i.answering w st).stands inside
          ∙ i.steady w file never told st inside;
      settings = e.settings ∙ i.settings;
      room = omega (arith, room, made, left);
      same = same_reader-then (state c.args.reader.now) (state c.loop-step.reader) (state c.answer_step.new.reader) i.same e.same;
      same_cache = same_cache-then (cache c.args.cache.now) (cache c.loop-step.cache) (cache c.answer_step.new.cache) i.same_cache e.same_cache;
    }

pub returns-in_err-replies-clause-stopped : goal.returns-in_err-replies-clause-stopped
returns-in_err-replies-clause-stopped g c = on-err c.from_residual.result _ (λ w st.
    let reader = g.R.Reader.state c.args.reader.now in
    let cache = g.C.SegmentCache.state c.args.cache.now in
    let started = answering-starts w (steps_left c.args.steps) c.args.session.now reader cache st in
    answering-stops w (steps_left c.args.steps) c.args.session.now _ reader reader reader cache cache [] c.args.session.now started (nothing-stops w started.history reader.log))

pub returns-in_err-reply-clause-stopped : goal.returns-in_err-reply-clause-stopped
returns-in_err-reply-clause-stopped g c = on-err c.from_residual-in_err-reply.result _ (λ w st.
    let state = g.R.Reader.state in
    let cache = g.C.SegmentCache.state in
    let h = c.loop-step.invariant.answering w st in
    answering-stops w (steps_left c.args.steps) c.args.session.now _ (state c.args.reader.now) (state c.loop-step.reader) (state c.answer_step.new.reader)
    (cache c.args.cache.now) (cache c.loop-step.cache) c.loop-step.replies c.loop-step.session h
    (c.in_err-reply.ensures.stopped w h.history h.stands))

pub returns-in_err-push-clause-stopped : goal.returns-in_err-push-clause-stopped
returns-in_err-push-clause-stopped g c = on-err c.from_residual-in_err-push.result _ (λ w st.
    let state = g.R.Reader.state in
    let cache = g.C.SegmentCache.state in
    let i = c.loop-step.invariant in
    let e = c.in_ok-reply.ensures in
    let turned = (answering-turn w (steps_left c.args.steps) c.args.session.now (steps_left c.loop-step.step-iterator) (steps_left c.next.new.self)
    c.in-Some.step (state c.args.reader.now) (state c.loop-step.reader) (state c.answer_step.new.reader)
    (cache c.args.cache.now) (cache c.loop-step.cache) (cache c.answer_step.new.cache) c.loop-step.replies c.loop-step.session
    c.answer_step.new.session c.in_ok-reply.reply c.in-Some.ensures.steps
    (i.answering w st) e.same_cache (λ past st_now. e.answered w past st_now) (λ past file told st_now h t. e.stays w past file (i.same.bytes ∙ told) st_now h t)) in
    answering-stops w (steps_left c.args.steps) c.args.session.now _ (state c.args.reader.now) (state c.answer_step.new.reader) (state c.answer_step.new.reader)
    (cache c.args.cache.now) (cache c.answer_step.new.cache) _ c.answer_step.new.session turned
    (nothing-stops w turned.history (state c.answer_step.new.reader).log))

pub returns-in_err-push-clause-steady : goal.returns-in_err-push-clause-steady
returns-in_err-push-clause-steady g c = λ w file never told st inside.
    let i = c.loop-step.invariant in
    let h = i.answering w st in
    c.in_ok-reply.ensures.steady w h.history file (i.same.never_fails ∙ never) (i.same.bytes ∙ told) h.stands inside ∙ i.steady w file never told st inside
