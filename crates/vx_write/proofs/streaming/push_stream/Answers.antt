use Rattle.std.proofs.Common.{◌≡◌, List, Option, ℕ, Ok, Some, Err, subst, refl}
use Rattle.vx_write.proofs.StreamLemmas.{next_some, next_none, next_failed, next_kept, same_chunks, so_far_none, so_far_more, all_pushed, cut_by_writer, cut_by_source, cut_by_memory, calm_pushed, calm_source, calm_memory}
use Rattle.vx_write.proofs.TakenLemmas.{calm_start, calm_step, calm_of, cause_after}
use Rattle.vx_write.proofs.streaming.push_stream.Goals as goal

pub loop-init : goal.loop-init
loop-init g c = record { sound = c.requires; so_far = so_far_none (g.I.ChunkSource.state c.args.chunks.now) c.args.writer.now (g.S.Sink.state c.args.out.now).gained; calm = calm_start (g.S.Sink.state c.args.out.now) }

pub loop-preserved : goal.loop-preserved
loop-preserved g c =
    let state = g.S.Sink.state in
    let chunks = g.I.ChunkSource.state in
    record {
      sound = c.in-Ok.ensures.sound;
      so_far = so_far_more (chunks c.args.chunks.now) (chunks c.loop.chunks) (chunks c.next_chunk.new.self) c.args.writer.now c.loop.writer c.push.new.self
          (state c.args.out.now).gained (state c.loop.out).gained (state c.push.new.out).gained c.in-Ok-Some.chunk c.loop.invariant.so_far
          (next_some _ _ c.in-Ok-Some.field-0 c.in-Ok-Some.chunk c.in-Ok-Some.field-0-is c.in-Ok-Some.ensures.cause) c.in-Ok-Some.ensures.same c.in-Ok.ensures.pushed;
      calm = calm_step (state c.args.out.now) (state c.loop.out) (state c.push.new.out) c.loop.invariant.calm (calm_of _ _ _ c.in-Ok.ensures.cause);
    }

pub returns-in-Err-clause-err : goal.returns-in-Err-clause-err
returns-in-Err-clause-err g c =
    let state = g.S.Sink.state in
    let chunks = g.I.ChunkSource.state in
    cut_by_writer (chunks c.args.chunks.now) (chunks c.loop.chunks) (chunks c.next_chunk.new.self) c.args.writer.now c.loop.writer c.push.new.self
    (state c.args.out.now).gained (state c.loop.out).gained (state c.push.new.out).gained c.in-Ok-Some.chunk c.in-Err.error c.loop.invariant.so_far
    (next_some _ _ c.in-Ok-Some.field-0 c.in-Ok-Some.chunk c.in-Ok-Some.field-0-is c.in-Ok-Some.ensures.cause) c.in-Ok-Some.ensures.same c.in-Err.ensures.pushed

pub returns-in-Err-clause-cause : goal.returns-in-Err-clause-cause
returns-in-Err-clause-cause g c =
    let state = g.S.Sink.state in
    cause_after (state c.args.out.now) (state c.loop.out) (state c.push.new.out) (Err c.in-Err.error) (Err c.in-Err.error) c.loop.invariant.calm c.in-Err.ensures.cause (λ e. e)

pub returns-in-Ok-None-clause-ok : goal.returns-in-Ok-None-clause-ok
returns-in-Ok-None-clause-ok g c =
    let state = g.S.Sink.state in
    let chunks = g.I.ChunkSource.state in
    all_pushed (chunks c.args.chunks.now) (chunks c.loop.chunks) (chunks c.next_chunk.new.self) c.args.writer.now c.loop.writer
    (state c.args.out.now).gained (state c.loop.out).gained c.loop.invariant.so_far
    (next_none _ _ c.in-Ok-None.field-0 c.in-Ok-None.field-0-is c.in-Ok-None.ensures.cause) c.in-Ok-None.ensures.same

pub returns-in-Err-Failed-clause-err : goal.returns-in-Err-Failed-clause-err
returns-in-Err-Failed-clause-err g c =
    let state = g.S.Sink.state in
    let chunks = g.I.ChunkSource.state in
    cut_by_source (chunks c.args.chunks.now) (chunks c.loop.chunks) (chunks c.next_chunk.new.self) c.args.writer.now c.loop.writer
    (state c.args.out.now).gained (state c.loop.out).gained c.loop.invariant.so_far
    (next_kept _ _ c.in-Err-Failed.field-0 c.in-Err-Failed.ensures.cause) c.in-Err-Failed.ensures.same
    (next_failed _ _ c.in-Err-Failed.field-0 c.in-Err-Failed.field-0-is c.in-Err-Failed.ensures.cause)

pub returns-in-Err-OutOfMemory-clause-err : goal.returns-in-Err-OutOfMemory-clause-err
returns-in-Err-OutOfMemory-clause-err g c =
    let state = g.S.Sink.state in
    let chunks = g.I.ChunkSource.state in
    cut_by_memory (chunks c.args.chunks.now) (chunks c.loop.chunks) (chunks c.next_chunk.new.self) c.args.writer.now c.loop.writer
    (state c.args.out.now).gained (state c.loop.out).gained c.loop.invariant.so_far
    (next_kept _ _ c.in-Err-OutOfMemory.field-0 c.in-Err-OutOfMemory.ensures.cause) c.in-Err-OutOfMemory.ensures.same

pub returns-clause-err : goal.returns-clause-err
returns-clause-err g c =
    let state = g.S.Sink.state in
    let chunks = g.I.ChunkSource.state in
    cut_by_memory (chunks c.args.chunks.now) (chunks c.loop.chunks) (chunks c.loop.chunks) c.args.writer.now c.loop.writer
    (state c.args.out.now).gained (state c.loop.out).gained c.loop.invariant.so_far refl (same_chunks (chunks c.loop.chunks))

pub returns-in-Ok-None-clause-cause : goal.returns-in-Ok-None-clause-cause
returns-in-Ok-None-clause-cause g c = calm_pushed (g.S.Sink.state c.args.out.now) (g.S.Sink.state c.loop.out) c.loop.invariant.calm

pub returns-in-Err-Failed-clause-cause : goal.returns-in-Err-Failed-clause-cause
returns-in-Err-Failed-clause-cause g c = calm_source (g.S.Sink.state c.args.out.now) (g.S.Sink.state c.loop.out) c.loop.invariant.calm

pub returns-in-Err-OutOfMemory-clause-cause : goal.returns-in-Err-OutOfMemory-clause-cause
returns-in-Err-OutOfMemory-clause-cause g c = calm_memory (g.S.Sink.state c.args.out.now) (g.S.Sink.state c.loop.out) c.loop.invariant.calm

pub returns-clause-cause : goal.returns-clause-cause
returns-clause-cause g c = calm_memory (g.S.Sink.state c.args.out.now) (g.S.Sink.state c.loop.out) c.loop.invariant.calm
