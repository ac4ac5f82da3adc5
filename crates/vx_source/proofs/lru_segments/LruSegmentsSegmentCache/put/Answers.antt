use Rattle.vx_source.proofs.KeepingLemmas.{put}
use Rattle.vx_source.proofs.lru_segments.LruSegmentsSegmentCache.put.Goals as goal

pub returns-in-Ok-keep-clause-cause : goal.returns-in-Ok-keep-clause-cause
returns-in-Ok-keep-clause-cause c = rw (c.in-Ok-keep.ensures.ok, c.in-Ok.ensures.ok) (put c.args.self.now c.args.id c.args.buffer)
