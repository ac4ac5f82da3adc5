use Rattle.std.proofs.Common.{sym, subst, List}
use Rattle.vx_base.specs.declared.segment.SegmentSpec.{SegmentSpec}
use Rattle.vx_source.specs.Bytes.{TellsSlices}
use Rattle.vx_source.specs.declared.reply.Reply.TheVariants.{Driven}
use Rattle.vx_file.proofs.Answering.{on-err, nothing-stops, drive-stops, register-answered, poll-answered, drop-answered, drive-answered, register-true, poll-true, drop-true, drive-true}
use Rattle.vx_file.proofs.steps.answer_step.Goals as goal

pub returns-in_err-reply-in-Register-clause-stopped : goal.returns-in_err-reply-in-Register-clause-stopped
returns-in_err-reply-in-Register-clause-stopped g c = on-err c.from_residual.result _ (λ w past st. nothing-stops w past (g.R.Reader.state c.args.reader.now).log)

pub returns-in_err-reply-in-Poll-clause-stopped : goal.returns-in_err-reply-in-Poll-clause-stopped
returns-in_err-reply-in-Poll-clause-stopped g c = on-err c.from_residual-in_err-reply-in-Poll.result _ (λ w past st. nothing-stops w past (g.R.Reader.state c.args.reader.now).log)

pub returns-in_err-spans-in-Drive-clause-stopped : goal.returns-in_err-spans-in-Drive-clause-stopped
returns-in_err-spans-in-Drive-clause-stopped g c =
    let state = g.R.Reader.state in
    let cache = g.C.SegmentCache.state in
    on-err c.from_residual-in_err-spans-in-Drive.result _ (λ w past st. drive-stops w past (state c.args.reader.now).log (state c.drive.new.reader).log (cache c.args.cache.now) (cache c.drive.new.cache) c.drive.new.self (c.in_err-spans-in-Drive.ensures.stopped w past st))

pub returns-in_ok-reply-in-Register-clause-answered : goal.returns-in_ok-reply-in-Register-clause-answered
returns-in_ok-reply-in-Register-clause-answered g c = λ w past st.
    let state = g.R.Reader.state in
    let cache = g.C.SegmentCache.state in
    register-answered w past c.args.step c.in_ok-reply-in-Register.reply c.register.new.self c.in-Register.segment (state c.args.reader.now) (cache c.args.cache.now) (cache c.register.new.cache) c.in-Register.is (c.in_ok-reply-in-Register.ensures.registers w past st)

pub returns-in_ok-reply-in-Poll-clause-answered : goal.returns-in_ok-reply-in-Poll-clause-answered
returns-in_ok-reply-in-Poll-clause-answered g c = λ w past st.
    poll-answered w past c.args.step c.in_ok-reply-in-Poll.reply c.poll.new.self c.in-Poll.number (g.R.Reader.state c.args.reader.now) (g.C.SegmentCache.state c.args.cache.now) c.in-Poll.is (c.in_ok-reply-in-Poll.ensures.polls w past st)

pub returns-in-Drop-clause-answered : goal.returns-in-Drop-clause-answered
returns-in-Drop-clause-answered g c = λ w past st.
    drop-answered w past c.args.step c.drop_request.result c.drop_request.new.self c.in-Drop.number (g.R.Reader.state c.args.reader.now) (g.C.SegmentCache.state c.args.cache.now) c.in-Drop.is (c.drop_request.ensures.drops w past st)

pub returns-in_ok-spans-in-Drive-clause-answered : goal.returns-in_ok-spans-in-Drive-clause-answered
returns-in_ok-spans-in-Drive-clause-answered g c = λ w past st.
    let state = g.R.Reader.state in
    let cache = g.C.SegmentCache.state in
    let e = c.in_ok-spans-in-Drive.ensures in
    rw c.from_vec.ensures (drive-answered w past c.args.step c.in_ok-spans-in-Drive.spans.items c.drive.new.self (state c.args.reader.now) (state c.drive.new.reader) (cache c.args.cache.now) (cache c.drive.new.cache) c.in-Drive.is
    (e.driven w past st) (e.puts w past st) e.log e.bad)

pub returns-in_ok-reply-in-Register-clause-stays : goal.returns-in_ok-reply-in-Register-clause-stays
returns-in_ok-reply-in-Register-clause-stays g c = λ w past file told st h t.
    let e = c.in_ok-reply-in-Register.ensures in
    record {
      reply_is = register-true file w past c.args.step c.in-Register.segment c.in_ok-reply-in-Register.reply c.in-Register.is;
      bytes = e.bytes w past file st h (subst (λ (ts : List SegmentSpec). TellsSlices file ts (g.C.SegmentCache.state c.args.cache.now)) (sym st.table) t);
      slices = e.slices file w.table t;
    }

pub returns-in_ok-reply-in-Poll-clause-stays : goal.returns-in_ok-reply-in-Poll-clause-stays
returns-in_ok-reply-in-Poll-clause-stays g c = λ w past file told st h t.
    let both = c.in_ok-reply-in-Poll.ensures.bytes w past file st h in
    record {
      reply_is = poll-true file w past c.args.step c.in-Poll.number c.in_ok-reply-in-Poll.reply c.in-Poll.is both.0;
      bytes = both.1;
      slices = t;
    }

pub returns-in-Drop-clause-stays : goal.returns-in-Drop-clause-stays
returns-in-Drop-clause-stays g c = λ w past file told st h t. record {
  reply_is = drop-true file w past c.args.step c.in-Drop.number c.drop_request.result c.in-Drop.is;
  bytes = c.drop_request.ensures.bytes file h;
  slices = t;
}

pub returns-in_ok-spans-in-Drive-clause-stays : goal.returns-in_ok-spans-in-Drive-clause-stays
returns-in_ok-spans-in-Drive-clause-stays g c = λ w past file told st h t.
    let e = c.in_ok-spans-in-Drive.ensures in
    record {
      reply_is = drive-true file w past c.args.step (Driven c.from_vec.result) c.in-Drive.is;
      bytes = e.bytes w past file told st h;
      slices = e.slices w past file told st h t;
    }
