use Rattle.std.proofs.Common.{arith}
use Rattle.vx_file.proofs.Covering.{one-gains, ok-all}
use Rattle.vx_file.proofs.covered.put_one.Goals as goal

pub returns-clause-gains : goal.returns-clause-gains
returns-clause-gains g c =
    let state = g.C.SegmentCache.state in
    let test = c.if-spec-tail.false in
    ok-all c.put.result _ (λ file end. one-gains file c.args.tail.now.start c.args.number c.args.spec.now c.in_ok-buffer.buffer (state c.args.cache.now) (state c.put.new.self) c.put.result (omega (arith, test))
    (c.in_ok-buffer.ensures file end) c.put.ensures.same.lost_never_falls c.put.ensures.cause)
