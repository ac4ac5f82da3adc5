use Rattle.std.proofs.Common.{ap, ◌∙◌}
use Rattle.vx_file.specs.Cached.{known_by}
use Rattle.vx_file.proofs.CachedLemmas.{opens_by}
use Rattle.vx_file.proofs.footers.MultiFileSession.open_kept.Goals as goal

pub returns-in-Ok-put_footer-clause-opens : goal.returns-in-Ok-put_footer-clause-opens
returns-in-Ok-put_footer-clause-opens g c = opens_by _ _ _ _ _ _
    (c.in-Ok-knowing.ensures.options ∙ ap (λ kept. known_by kept c.args.file_size c.args.options.options) c.in-Ok.ensures.found)
    (ap g.C.SegmentCache.state c.in-Ok-knowing.ensures.cache) c.in-Ok-open_read.ensures.opens
