use Rattle.vx_write.proofs.TakenLemmas.{sent_turn, calm_step}
use Rattle.vx_write.proofs.counted.write_counted.Goals as goal

pub loop-rest-preserved : goal.loop-rest-preserved
loop-rest-preserved g c =
    let state = g.S.Sink.state in
    let invariant = c.loop-rest.invariant in
    let cause = c.in-Ok.ensures.cause in
    record {
      sent = sent_turn c.args.bytes.now c.loop-rest.rest.now c.rest_of-rest.result.now c.in-Ok.count (state c.args.sink.now).gained (state c.loop-rest.sink).gained (state c.write.new.self).gained
          c.args.taken.now c.loop-rest.taken invariant.sent cause.bound c.rest_of-rest.ensures cause.taken;
      calm = calm_step (state c.args.sink.now) (state c.loop-rest.sink) (state c.write.new.self) invariant.calm (record { same = c.in-Ok.ensures.same; sound = λ sound. (cause.refused.sound sound).1 });
    }
