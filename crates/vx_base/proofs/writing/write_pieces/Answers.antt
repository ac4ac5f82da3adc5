use Rattle.std.proofs.Common.{◌≡◌, arith, rules, Err}
use Rattle.vx_base.specs.Streams.{same_sink-then}
use Rattle.vx_base.proofs.TakingLemmas.{pieces-taken, pieces-prefix, pieces-refused, pieces-written, faultless-then}
use Rattle.vx_base.proofs.writing.write_pieces.Goals as goal

pub returns-in_err-write_all-clause-written : goal.returns-in_err-write_all-clause-written
returns-in_err-write_all-clause-written g c =
    let state = g.S.Sink.state in
    let invariant = c.loop-piece.invariant in
    let is : c.from_residual.result ≡ Err c.in_err-write_all.field-0.0 = search rules in
    pieces-refused _ c.args.pieces.now c.loop-piece.piece-index _ (state c.args.sink.now) (state c.loop-piece.sink) (state c.write_all.new.sink) c.in_err-write_all.field-0.0 c.from_residual.result (omega arith) is invariant.prefix invariant.same invariant.faultless c.in_err-write_all.ensures.written

pub loop-piece-preserved : goal.loop-piece-preserved
loop-piece-preserved g c =
    let state = g.S.Sink.state in
    let invariant = c.loop-piece.invariant in
    let written = c.in_ok-write_all.ensures.written in
    let same = c.in_ok-write_all.ensures.same in
    record {
      took = pieces-taken _ c.args.pieces.now c.loop-piece.piece-index _ _ _ _ (omega arith) written.took invariant.took;
      prefix = pieces-prefix _ c.args.pieces.now c.loop-piece.piece-index _ _ _ _ (omega arith) written.took invariant.prefix;
      same = same_sink-then (state c.args.sink.now) (state c.loop-piece.sink) (state c.write_all.new.sink) invariant.same same;
      faultless = faultless-then (state c.args.sink.now) (state c.loop-piece.sink) (state c.write_all.new.sink) invariant.same invariant.faultless (λ sound. (written.refused.sound sound).1);
    }

pub returns-clause-written : goal.returns-clause-written
returns-clause-written g c =
    let state = g.S.Sink.state in
    let invariant = c.loop-piece.invariant in
    pieces-written _ c.args.pieces.now c.loop-piece.piece-index (state c.args.sink.now) (state c.loop-piece.sink) (omega arith) invariant.took invariant.faultless
