use Rattle.vx_base.specs.Streams.{same_sink-then}
use Rattle.vx_base.proofs.TakingLemmas.{write-turn, faultless-then}
use Rattle.vx_base.proofs.writing.write_all.Goals as goal

pub loop-rest-preserved : goal.loop-rest-preserved
loop-rest-preserved g c =
    let state = g.S.Sink.state in
    let invariant = c.loop-rest.invariant in
    let cause = c.in_ok-n.ensures.cause in
    let same = c.in_ok-n.ensures.same in
    let turn = write-turn c.args.bytes.now c.loop-rest.rest.now c.rest_of-rest.result.now c.in_ok-n.n _ _ _ invariant.rest invariant.fewer invariant.took cause.bound c.rest_of-rest.ensures cause.taken in
    record {
      rest = turn.rest;
      fewer = turn.fewer;
      took = turn.took;
      same = same_sink-then (state c.args.sink.now) (state c.loop-rest.sink) (state c.write.new.self) invariant.same same;
      faultless = faultless-then (state c.args.sink.now) (state c.loop-rest.sink) (state c.write.new.self) invariant.same invariant.faultless (λ sound. (cause.refused.sound sound).1);
    }
