use Rattle.std.proofs.Common.{map}
use Rattle.std.specs.Prelude.{string_bytes}
use Rattle.vx_file.specs.Scans.{bytes_in, array_in}
use Rattle.vx_file.proofs.ReadingLemmas.{slice_bytes, decode_fails, decode_quiet}
use Rattle.vx_file.proofs.layout_reading.read_flat.Goals as goal

pub returns-in-Ok-clause-fails : goal.returns-in-Ok-clause-fails
returns-in-Ok-clause-fails g c = λ e is file s.
    let state = g.S.SegmentSource.state in
    let table = (state c.args.source.now).table in
    decode_fails (bytes_in file table) (map string_bytes c.args.ids.now) (state c.args.source.now) (state c.segment.new.self) c.args.layout.now c.segment_of-id.result.0 c.in-Ok.segment.bytes e
    c.requires c.segment_of-id.ensures.segment (slice_bytes file table c.segment_of-id.result.0 c.in-Ok.segment c.in-Ok.ensures.cause.inside (c.in-Ok.ensures.slice file s)) (c.decode_flat.ensures.fails e is)

pub returns-in-Ok-clause-cause : goal.returns-in-Ok-clause-cause
returns-in-Ok-clause-cause g c = λ e is.
    let state = g.S.SegmentSource.state in
    decode_quiet (state c.args.source.now) (state c.segment.new.self) c.segment_of-id.result.0 (array_in c.args.layout.now (map string_bytes c.args.ids.now) c.in-Ok.segment.bytes) e (c.decode_flat.ensures.fails e is)
