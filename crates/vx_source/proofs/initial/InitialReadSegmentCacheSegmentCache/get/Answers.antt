use Rattle.std.proofs.Common.{sym, ◌∙◌}
use Rattle.vx_source.proofs.FrontLemmas.{get-at-hand, get-behind}
use Rattle.vx_source.proofs.initial.InitialReadSegmentCacheSegmentCache.get.Goals as goal

pub returns-in-Some-clause-cause : goal.returns-in-Some-clause-cause
returns-in-Some-clause-cause g c =
    get-at-hand c.args.self.now.initial.entries (g.C.SegmentCache.state c.args.self.now.fallback) c.args.id.0 c.in-Some.buffer (sym c.in-Some.is ∙ c.in_ok-buffer.ensures)

pub returns-in-None-clause-cause : goal.returns-in-None-clause-cause
returns-in-None-clause-cause g c =
    let state = g.C.SegmentCache.state in
    get-behind c.args.self.now.initial.entries (state c.args.self.now.fallback) (state c.get.new.self) c.args.id.0 c.get.result (sym c.in-None.is ∙ c.in_ok-buffer.ensures) c.get.ensures.cause
