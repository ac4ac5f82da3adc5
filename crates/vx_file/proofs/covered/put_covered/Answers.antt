use Rattle.std.proofs.Common.{◌<◌, length, min, arith}
use Rattle.vx_base.specs.Caches.{same_cache, same_cache-then}
use Rattle.vx_file.proofs.Covering.{place-more, place-end}
use Rattle.vx_file.proofs.covered.put_covered.Goals as goal

pub loop-number-init : goal.loop-number-init
loop-number-init g c =
    let state = g.C.SegmentCache.state in
    record { gains = λ file end last h. h; same = same_cache (state c.args.cache.now) }

pub loop-number-preserved : goal.loop-number-preserved
loop-number-preserved g c =
    let state = g.C.SegmentCache.state in
    let i = c.loop-number.invariant in
    let n = c.loop-number.number in
    let table = c.args.segments.now in
    let test = c.loop-number-test.true in
    let end = c.min-number-end.ensures in
    let inside : n < min (length table) 4294967296 = omega (arith, test, end) in
    record {
      gains = λ file is last more. i.gains file is last
          (place-more file c.args.tail.now.start table n c.index-segments-number.result inside c.index-segments-number.is (state c.loop-number.cache) (state c.put_one.new.cache) last
          (c.in_ok-put_one.ensures.gains file is) more);
      same = same_cache-then (state c.args.cache.now) (state c.loop-number.cache) (state c.put_one.new.cache) i.same c.in_ok-put_one.ensures.same;
    }

pub returns-clause-gains : goal.returns-clause-gains
returns-clause-gains g c = λ file is.
    let state = g.C.SegmentCache.state in
    let test = c.loop-number-test.false in
    let end = c.min-number-end.ensures in
    c.loop-number.invariant.gains file is (state c.loop-number.cache) (place-end file c.args.tail.now.start c.args.segments.now c.loop-number.number (state c.loop-number.cache) (omega (arith, test, end)))
