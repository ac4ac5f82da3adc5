use Rattle.std.proofs.Common.{◌≡◌, List, Option, ℕ, Ok, Err}
use Rattle.vx_data.specs.Dtype.{dtype_view}
use Rattle.vx_write.proofs.StreamedLemmas.{streams_refused, streams_failed, streams_cut, streams_finished}
use Rattle.vx_write.proofs.options.VortexWriteOptions.write.Goals as goal

pub returns-in-Err-clause-streams : goal.returns-in-Err-clause-streams
returns-in-Err-clause-streams g c = streams_refused c.args.self (dtype_view c.args.dtype) (g.I.ChunkSource.state c.args.chunks.now) (g.S.Sink.state c.args.out.now) c.in-Err.error c.in-Err.ensures.checked

pub returns-in-Err-Chunks-clause-streams : goal.returns-in-Err-Chunks-clause-streams
returns-in-Err-Chunks-clause-streams g c =
    let state = g.S.Sink.state in
    let chunks = g.I.ChunkSource.state in
    streams_failed c.args.self (dtype_view c.args.dtype) (chunks c.args.chunks.now) (chunks c.push_stream.new.chunks) c.in-Ok.writer (state c.args.out.now) (state c.push_stream.new.out)
    c.in-Err-Chunks.field-0 c.in-Err-Chunks.field-0-is (c.in-Ok.ensures.stands (state c.args.out.now).gained) c.in-Err-Chunks.ensures.err

pub returns-in-Err-Writer-clause-streams : goal.returns-in-Err-Writer-clause-streams
returns-in-Err-Writer-clause-streams g c =
    let state = g.S.Sink.state in
    let chunks = g.I.ChunkSource.state in
    rw (c.in-Err-Writer.field-0-is)
    (streams_cut c.args.self (dtype_view c.args.dtype) (chunks c.args.chunks.now) (chunks c.push_stream.new.chunks) c.in-Ok.writer (state c.args.out.now) (state c.push_stream.new.out)
    c.in-Err-Writer.field-0 c.in-Err-Writer.error c.in-Err-Writer.field-0-is c.in-Ok.ensures.checked (c.in-Ok.ensures.stands (state c.args.out.now).gained) c.in-Err-Writer.ensures.err)

pub returns-in-Ok-finish-clause-streams : goal.returns-in-Ok-finish-clause-streams
returns-in-Ok-finish-clause-streams g c =
    let state = g.S.Sink.state in
    let chunks = g.I.ChunkSource.state in
    let start = (state c.args.out.now).gained in
    streams_finished c.args.self (dtype_view c.args.dtype) (chunks c.args.chunks.now) (chunks c.push_stream.new.chunks) c.in-Ok.writer c.push_stream.new.writer (state c.args.out.now)
    (state c.finish.new.out) (state c.push_stream.new.out).gained (Ok c.in-Ok-finish.summary) c.are_told.ensures c.has_texts.ensures c.in-Ok.ensures.checked (c.in-Ok.ensures.stands start)
    c.in-Ok-push_stream.ensures.ok (λ past s. c.in-Ok-finish.ensures.finished c.args.self (dtype_view c.args.dtype) past start s)

pub returns-in-Err-finish-clause-streams : goal.returns-in-Err-finish-clause-streams
returns-in-Err-finish-clause-streams g c =
    let state = g.S.Sink.state in
    let chunks = g.I.ChunkSource.state in
    let start = (state c.args.out.now).gained in
    streams_finished c.args.self (dtype_view c.args.dtype) (chunks c.args.chunks.now) (chunks c.push_stream.new.chunks) c.in-Ok.writer c.push_stream.new.writer (state c.args.out.now)
    (state c.finish.new.out) (state c.push_stream.new.out).gained (Err c.in-Err-finish.error) c.are_told.ensures c.has_texts.ensures c.in-Ok.ensures.checked (c.in-Ok.ensures.stands start)
    c.in-Ok-push_stream.ensures.ok (λ past s. c.in-Err-finish.ensures.finished c.args.self (dtype_view c.args.dtype) past start s)
