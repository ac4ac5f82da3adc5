use Rattle.std.proofs.Common.{◌∙◌, inr, refl, length}
use Rattle.vx_base.specs.Caches.{same_cache, same_cache-then}
use Rattle.vx_base.specs.Readers.{same_reader, same_reader-then}
use Rattle.vx_source.proofs.DriveLemmas.{on-err, driving-start, asking-start, drive-stops, drives-on, drive-ends, turns-bytes, turns-slices, turns-put, asking-then, asking-last}
use Rattle.vx_source.proofs.PutLemmas.{puts-start}
use Rattle.vx_source.specs.Fits.{driven}
use Rattle.vx_source.specs.Stands.{words}
use Rattle.vx_source.proofs.InsideLemmas.{stands-inside}
use Rattle.vx_source.proofs.session.Session.drive.Goals as goal

pub loop-done-preserved : goal.loop-done-preserved
loop-done-preserved g c =
    let state = g.R.Reader.state in
    let cache = g.C.SegmentCache.state in
    let i = c.loop-done.invariant in
    let t = c.in_ok-turn.ensures.turned.whole c.if-branch.true in
    record {
      driving = λ w past st. drives-on w past c.loop-done.self c.turn.new.self c.loop-done.done.items c.turn.new.done.items (state c.loop-done.reader) (state c.turn.new.reader) (cache c.loop-done.cache) (cache c.turn.new.cache) (i.driving w past st) t;
      bytes = λ w past file told st h. turns-bytes w past file c.loop-done.self c.turn.new.self c.loop-done.done.items c.turn.new.done.items (state c.loop-done.reader) (state c.turn.new.reader) (cache c.loop-done.cache) (cache c.turn.new.cache)
          (i.driving w past st) (i.same.bytes ∙ told) (inr t.0) (i.bytes w past file told st h);
      slices = λ w past file told st h t_old. turns-slices w past file c.loop-done.self c.turn.new.self c.loop-done.done.items c.turn.new.done.items (state c.loop-done.reader) (state c.turn.new.reader) (cache c.loop-done.cache) (cache c.turn.new.cache)
          (i.driving w past st) (i.same.bytes ∙ told) (inr t.0) (i.slices w past file told st h t_old);
      steady = λ w past file never told st inside.
          c.in_ok-turn.ensures.steady file (i.same.never_fails ∙ never) (i.same.bytes ∙ told) (stands-inside w (words w (driven c.loop-done.done.items past)) (length file) c.loop-done.self (i.driving w past st).stands inside)
          ∙ i.steady w past file never told st inside;
      sound = λ w past file never told st inside.
          c.in_ok-turn.ensures.sound file (i.same.never_fails ∙ never) (i.same.bytes ∙ told) (stands-inside w (words w (driven c.loop-done.done.items past)) (length file) c.loop-done.self (i.driving w past st).stands inside)
          ∙ i.sound w past file never told st inside;
      made = c.in_ok-turn.ensures.made ∙ i.made;
      asking = asking-then c.loop-done.self c.turn.new.self c.loop-done.done.items c.turn.new.done.items (state c.args.reader.now) (state c.loop-done.reader) (state c.turn.new.reader) (cache c.loop-done.cache) (cache c.turn.new.cache) i.asking t.0;
      puts = λ w past st. turns-put w past c.loop-done.self c.turn.new.self c.loop-done.done.items c.turn.new.done.items (state c.loop-done.reader) (state c.turn.new.reader)
          (cache c.args.cache.now) (cache c.loop-done.cache) (cache c.turn.new.cache) (i.driving w past st) (i.puts w past st) (inr t.0);
      same_cache = same_cache-then (cache c.args.cache.now) (cache c.loop-done.cache) (cache c.turn.new.cache) i.same_cache c.in_ok-turn.ensures.same_cache;
      idle = c.in_ok-turn.ensures.idle ∙ i.idle;
      same = same_reader-then (state c.args.reader.now) (state c.loop-done.reader) (state c.turn.new.reader) i.same c.in_ok-turn.ensures.same;
    }

pub returns-clause-driven : goal.returns-clause-driven
returns-clause-driven g c = λ w past st.
    let state = g.R.Reader.state in
    let cache = g.C.SegmentCache.state in
    drive-ends w past c.loop-done.self c.turn.new.self c.loop-done.done.items c.turn.new.done.items (state c.loop-done.reader) (state c.turn.new.reader) (cache c.loop-done.cache) (cache c.turn.new.cache)
    (c.loop-done.invariant.driving w past st) (c.in_ok-turn.ensures.turned.last c.if-branch.false)

pub returns-clause-bad : goal.returns-clause-bad
returns-clause-bad g c =
    let state = g.R.Reader.state in
    let cache = g.C.SegmentCache.state in
    (asking-last c.loop-done.self c.turn.new.self c.loop-done.done.items c.turn.new.done.items (state c.args.reader.now) (state c.loop-done.reader) (state c.turn.new.reader) (cache c.loop-done.cache) (cache c.turn.new.cache)
    c.loop-done.invariant.asking (c.in_ok-turn.ensures.turned.last c.if-branch.false).0).rises

pub returns-clause-bytes : goal.returns-clause-bytes
returns-clause-bytes g c = λ w past file told st h.
    let state = g.R.Reader.state in
    let cache = g.C.SegmentCache.state in
    let i = c.loop-done.invariant in
    turns-bytes w past file c.loop-done.self c.turn.new.self c.loop-done.done.items c.turn.new.done.items (state c.loop-done.reader) (state c.turn.new.reader) (cache c.loop-done.cache) (cache c.turn.new.cache)
    (i.driving w past st) (i.same.bytes ∙ told) (c.in_ok-turn.ensures.turned.last c.if-branch.false).0 (i.bytes w past file told st h)

pub returns-clause-puts : goal.returns-clause-puts
returns-clause-puts g c = λ w past st.
    let state = g.R.Reader.state in
    let cache = g.C.SegmentCache.state in
    let i = c.loop-done.invariant in
    turns-put w past c.loop-done.self c.turn.new.self c.loop-done.done.items c.turn.new.done.items (state c.loop-done.reader) (state c.turn.new.reader)
    (cache c.args.cache.now) (cache c.loop-done.cache) (cache c.turn.new.cache) (i.driving w past st) (i.puts w past st) (c.in_ok-turn.ensures.turned.last c.if-branch.false).0

pub loop-done-init : goal.loop-done-init
loop-done-init g c =
    let state = g.R.Reader.state in
    let cache = g.C.SegmentCache.state in
    rw (c.room_for_spans-done.ensures.kept, c.room_for_spans-done.ensures.none) (record {
      driving = λ w past st. driving-start w past c.args.self.now st;
      bytes = λ w past file told st h. h;
      slices = λ w past file told st h t. t;
      steady = λ w past file never told st inside. refl;
      sound = λ w past file never told st inside. refl;
      made = refl;
      puts = λ w past st. puts-start past (cache c.args.cache.now);
      same_cache = same_cache (cache c.args.cache.now);
      asking = asking-start (state c.args.reader.now);
      idle = refl;
      same = same_reader (state c.args.reader.now);
    })

pub returns-in_err-turn-clause-bytes : goal.returns-in_err-turn-clause-bytes
returns-in_err-turn-clause-bytes g c = λ w past file told st h. rw c.in_err-turn.ensures.err (c.loop-done.invariant.bytes w past file told st h)

pub returns-in_err-turn-clause-stopped : goal.returns-in_err-turn-clause-stopped
returns-in_err-turn-clause-stopped g c = on-err c.from_residual.result _ (λ w past st.
    let state = g.R.Reader.state in
    let cache = g.C.SegmentCache.state in
    let i = c.loop-done.invariant in
    rw (c.in_err-turn.ensures.err, c.in_err-turn.ensures.err_cache)
    (drive-stops w past c.loop-done.self c.loop-done.done.items (state c.args.reader.now) (state c.loop-done.reader) (state c.turn.new.reader) (cache c.args.cache.now) (cache c.loop-done.cache)
    (i.driving w past st) i.asking (i.puts w past st) c.in_err-turn.ensures.lost))

pub returns-clause-slices : goal.returns-clause-slices
returns-clause-slices g c = λ w past file told st h t.
    let state = g.R.Reader.state in
    let cache = g.C.SegmentCache.state in
    let i = c.loop-done.invariant in
    turns-slices w past file c.loop-done.self c.turn.new.self c.loop-done.done.items c.turn.new.done.items (state c.loop-done.reader) (state c.turn.new.reader) (cache c.loop-done.cache) (cache c.turn.new.cache)
    (i.driving w past st) (i.same.bytes ∙ told) (c.in_ok-turn.ensures.turned.last c.if-branch.false).0 (i.slices w past file told st h t)

pub returns-clause-steady : goal.returns-clause-steady
returns-clause-steady g c = λ w past file never told st inside.
    let i = c.loop-done.invariant in
    c.in_ok-turn.ensures.steady file (i.same.never_fails ∙ never) (i.same.bytes ∙ told) (stands-inside w (words w (driven c.loop-done.done.items past)) (length file) c.loop-done.self (i.driving w past st).stands inside)
    ∙ i.steady w past file never told st inside

pub returns-clause-sound : goal.returns-clause-sound
returns-clause-sound g c = λ w past file never told st inside.
    let i = c.loop-done.invariant in
    c.in_ok-turn.ensures.sound file (i.same.never_fails ∙ never) (i.same.bytes ∙ told) (stands-inside w (words w (driven c.loop-done.done.items past)) (length file) c.loop-done.self (i.driving w past st).stands inside)
    ∙ i.sound w past file never told st inside

pub returns-in_err-turn-clause-steady : goal.returns-in_err-turn-clause-steady
returns-in_err-turn-clause-steady g c = λ w past file never told st inside.
    let i = c.loop-done.invariant in
    c.in_err-turn.ensures.steady file (i.same.never_fails ∙ never) (i.same.bytes ∙ told) (stands-inside w (words w (driven c.loop-done.done.items past)) (length file) c.loop-done.self (i.driving w past st).stands inside)
    ∙ i.steady w past file never told st inside

pub returns-in_err-turn-clause-slices : goal.returns-in_err-turn-clause-slices
returns-in_err-turn-clause-slices g c = λ w past file told st h t. rw c.in_err-turn.ensures.err_cache (c.loop-done.invariant.slices w past file told st h t)
