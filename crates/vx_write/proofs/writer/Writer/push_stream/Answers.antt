use Rattle.vx_write.proofs.StreamLemmas.{next_some, next_none, next_failed, next_kept}
use Rattle.vx_write.proofs.TakenLemmas.{calm_start, calm_step, calm_of}
use Rattle.vx_write.proofs.WriterStreams.{so_far_none, so_far_more, all_pushed, refused_last, stopped_by_source, stopped_by_memory}
use Rattle.vx_write.proofs.writer.Writer.push_stream.Goals as goal

pub loop-init : goal.loop-init
loop-init g c = record {
  so_far = so_far_none (g.I.ChunkSource.state c.args.chunks.now) c.args.self.now.state (g.O.Sink.state c.args.self.now.out).gained;
  calm = calm_start (g.O.Sink.state c.args.self.now.out);
}

pub loop-preserved : goal.loop-preserved
loop-preserved g c =
    let state = g.O.Sink.state in
    let chunks = g.I.ChunkSource.state in
    record {
      so_far = so_far_more (chunks c.args.chunks.now) (chunks c.loop.chunks) (chunks c.next_chunk.new.self) c.args.self.now.state c.loop.self.state c.push.new.self.state
          (state c.args.self.now.out).gained (state c.loop.self.out).gained (state c.push.new.self.out).gained c.in-Ok-Some.chunk c.loop.invariant.so_far
          (next_some _ _ c.in-Ok-Some.field-0 c.in-Ok-Some.chunk c.in-Ok-Some.field-0-is c.in-Ok-Some.ensures.cause) c.in-Ok-Some.ensures.same c.in-Ok.ensures.pushes;
      calm = calm_step (state c.args.self.now.out) (state c.loop.self.out) (state c.push.new.self.out) c.loop.invariant.calm (calm_of _ _ _ c.in-Ok.ensures.cause);
    }

pub returns-in-Err-clause-pushes : goal.returns-in-Err-clause-pushes
returns-in-Err-clause-pushes g c o d past start h =
    let state = g.O.Sink.state in
    let chunks = g.I.ChunkSource.state in
    refused_last o d past start (chunks c.args.chunks.now) (chunks c.loop.chunks) (chunks c.next_chunk.new.self) c.args.self.now.state c.loop.self.state c.push.new.self.state
    (state c.args.self.now.out).gained (state c.loop.self.out).gained (state c.push.new.self.out).gained c.in-Ok-Some.chunk c.in-Err.error c.loop.invariant.so_far
    (next_some _ _ c.in-Ok-Some.field-0 c.in-Ok-Some.chunk c.in-Ok-Some.field-0-is c.in-Ok-Some.ensures.cause) c.in-Ok-Some.ensures.same c.in-Err.ensures.pushes h

pub returns-in-Ok-None-clause-pushes : goal.returns-in-Ok-None-clause-pushes
returns-in-Ok-None-clause-pushes g c o d past start h =
    let state = g.O.Sink.state in
    let chunks = g.I.ChunkSource.state in
    all_pushed o d past start (chunks c.args.chunks.now) (chunks c.loop.chunks) (chunks c.next_chunk.new.self) c.args.self.now.state c.loop.self.state
    (state c.args.self.now.out).gained (state c.loop.self.out).gained c.loop.invariant.so_far
    (next_none _ _ c.in-Ok-None.field-0 c.in-Ok-None.field-0-is c.in-Ok-None.ensures.cause) c.in-Ok-None.ensures.same h

pub returns-in-Err-Failed-clause-pushes : goal.returns-in-Err-Failed-clause-pushes
returns-in-Err-Failed-clause-pushes g c o d past start h =
    let state = g.O.Sink.state in
    let chunks = g.I.ChunkSource.state in
    stopped_by_source o d past start (chunks c.args.chunks.now) (chunks c.loop.chunks) (chunks c.next_chunk.new.self) c.args.self.now.state c.loop.self.state c.break_off.new.self
    (state c.args.self.now.out).gained (state c.loop.self.out).gained c.loop.invariant.so_far
    (next_kept _ _ c.in-Err-Failed.field-0 c.in-Err-Failed.ensures.cause) c.in-Err-Failed.ensures.same
    (next_failed _ _ c.in-Err-Failed.field-0 c.in-Err-Failed.field-0-is c.in-Err-Failed.ensures.cause)
    (record { untouched = c.break_off.ensures.untouched; begun = c.break_off.ensures.begun }) h

pub returns-in-Err-OutOfMemory-clause-pushes : goal.returns-in-Err-OutOfMemory-clause-pushes
returns-in-Err-OutOfMemory-clause-pushes g c o d past start h =
    let state = g.O.Sink.state in
    let chunks = g.I.ChunkSource.state in
    stopped_by_memory o d past start (chunks c.args.chunks.now) (chunks c.loop.chunks) (chunks c.next_chunk.new.self) c.args.self.now.state c.loop.self.state c.break_off-in-Err-OutOfMemory.new.self
    (state c.args.self.now.out).gained (state c.loop.self.out).gained c.loop.invariant.so_far
    (next_kept _ _ c.in-Err-OutOfMemory.field-0 c.in-Err-OutOfMemory.ensures.cause) c.in-Err-OutOfMemory.ensures.same
    (record { untouched = c.break_off-in-Err-OutOfMemory.ensures.untouched; begun = c.break_off-in-Err-OutOfMemory.ensures.begun }) h
