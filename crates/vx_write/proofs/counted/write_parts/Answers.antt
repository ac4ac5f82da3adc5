use Rattle.std.proofs.Common.{arith}
use Rattle.vx_write.proofs.TakenLemmas.{parts_step, parts_cut, calm_step, calm_of}
use Rattle.vx_write.proofs.counted.write_parts.Goals as goal

pub returns-in-Err-clause-err : goal.returns-in-Err-clause-err
returns-in-Err-clause-err g c =
    let state = g.S.Sink.state in
    parts_cut _ c.args.parts.now c.loop-at.at _ (state c.args.sink.now).gained (state c.loop-at.sink).gained (state c.write_counted.new.sink).gained c.args.taken.now c.loop-at.taken c.write_counted.new.taken
    (omega arith) c.loop-at.invariant.sent c.in-Err.ensures.err

pub loop-at-preserved : goal.loop-at-preserved
loop-at-preserved g c =
    let state = g.S.Sink.state in
    record {
      sent = parts_step _ c.args.parts.now c.loop-at.at _ (state c.args.sink.now).gained (state c.loop-at.sink).gained (state c.write_counted.new.sink).gained c.args.taken.now c.loop-at.taken c.write_counted.new.taken
          (omega arith) c.loop-at.invariant.sent c.in-Ok.ensures.ok;
      calm = calm_step (state c.args.sink.now) (state c.loop-at.sink) (state c.write_counted.new.sink) c.loop-at.invariant.calm (calm_of _ _ _ c.in-Ok.ensures.cause);
    }
