use Rattle.vx_source.proofs.KeepingLemmas.{got, got-nothing}
use Rattle.vx_source.proofs.lru_segments.LruSegmentsSegmentCache.get.Goals as goal

pub returns-in_err-found-clause-cause : goal.returns-in_err-found-clause-cause
returns-in_err-found-clause-cause c = rw c.find.ensures.front (got-nothing c.args.self.now c.args.id.0 c.from_residual.result c.from_residual.ensures.1)

pub returns-clause-cause : goal.returns-clause-cause
returns-clause-cause c = rw c.find.ensures.front (got c.args.self.now c.args.id.0 c.in_ok-found.found c.in_ok-found.ensures.found)
