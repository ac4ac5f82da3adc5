use Rattle.vx_source.proofs.FrontLemmas.{put-front}
use Rattle.vx_source.proofs.initial.InitialReadSegmentCacheSegmentCache.put.Goals as goal

pub returns-clause-cause : goal.returns-clause-cause
returns-clause-cause g c =
    let state = g.C.SegmentCache.state in
    put-front c.args.self.now.initial.entries c.args.id c.args.buffer (state c.args.self.now.fallback) (state c.put.new.self) c.put.result c.put.ensures.cause
