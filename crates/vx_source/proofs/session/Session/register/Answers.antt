use Rattle.std.proofs.Common.{◌+◌, ◌≤◌, length, sym, ◌∙◌, subst, arith}
use Rattle.vx_base.specs.Counts.{last_count}
use Rattle.vx_source.specs.Caching.{HasGot}
use Rattle.vx_source.specs.Kept.{got_of}
use Rattle.vx_source.proofs.BytesLemmas.{looks-bytes, old-slices}
use Rattle.vx_source.proofs.SettingLemmas.{look-registered}
use Rattle.vx_source.proofs.StepLemmas.{registers-next, asked-is}
use Rattle.vx_source.proofs.session.Session.register.Goals as goal

pub returns-clause-registers : goal.returns-clause-registers
returns-clause-registers g c = λ w past st.
    let state = g.C.SegmentCache.state in
    let requires = c.requires in
    let room : length c.args.self.now.requests + 1 ≤ last_count = omega (arith, requires) in
    record {
      got = got_of c.in_ok-look.look;
      cache = subst (λ asked. HasGot asked c.args.id.0 (state c.args.cache.now) (state c.look.new.cache) (got_of c.in_ok-look.look)) (asked-is w past c.args.self.now c.args.id.0 st room) c.in_ok-look.ensures.got;
      next = rw (c.in_ok-reply.ensures.reply, c.in_ok-reply.ensures.after) (registers-next w past c.args.self.now c.args.id.0 st room c.in_ok-look.look c.in_ok-look.ensures.is);
    }

pub returns-clause-bytes : goal.returns-clause-bytes
returns-clause-bytes g c = λ w past file st h slices.
    rw c.in_ok-reply.ensures.after (looks-bytes file c.args.self.now c.args.id.0 (g.C.SegmentCache.state c.args.cache.now) c.in_ok-look.look h (st.places ∙ sym st.count)
    c.in_ok-look.ensures.is c.in_ok-look.ensures.entry slices)

pub returns-clause-slices : goal.returns-clause-slices
returns-clause-slices g c = λ file table t.
    let state = g.C.SegmentCache.state in
    old-slices file table (state c.args.cache.now) (state c.look.new.cache) c.in_ok-look.ensures.from c.in_ok-look.ensures.tells t

pub returns-clause-settings : goal.returns-clause-settings
returns-clause-settings g c = rw c.in_ok-reply.ensures.after (look-registered c.args.self.now c.args.id.0 c.in_ok-look.look).idle

pub returns-clause-room : goal.returns-clause-room
returns-clause-room g c = rw c.in_ok-reply.ensures.after (look-registered c.args.self.now c.args.id.0 c.in_ok-look.look).room

pub returns-in_err-look-clause-slices : goal.returns-in_err-look-clause-slices
returns-in_err-look-clause-slices g c = λ file table t.
    let state = g.C.SegmentCache.state in
    old-slices file table (state c.args.cache.now) (state c.look.new.cache) c.in_err-look.ensures.from c.in_err-look.ensures.tells t

pub returns-in_err-reply-clause-slices : goal.returns-in_err-reply-clause-slices
returns-in_err-reply-clause-slices g c = λ file table t.
    let state = g.C.SegmentCache.state in
    old-slices file table (state c.args.cache.now) (state c.look.new.cache) c.in_ok-look.ensures.from c.in_ok-look.ensures.tells t
