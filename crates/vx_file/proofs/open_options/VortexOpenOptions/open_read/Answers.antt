use Rattle.std.proofs.Common.{◌≡◌, ap, subst, ◌∙◌}
use Rattle.vx_file.specs.declared.served.ServeError.TheVariants.{OutOfMemory}
use Rattle.vx_file.specs.OpenRead.{NotOpened}
use Rattle.vx_file.specs.Plans.{plan_of}
use Rattle.vx_file.proofs.ReaderOpenings.{opened_by, opened_parts, not_opened_behind}
use Rattle.vx_file.proofs.open_options.VortexOpenOptions.open_read.Goals as goal

pub returns-in-Err-source_of-clause-fails : goal.returns-in-Err-source_of-clause-fails
returns-in-Err-source_of-clause-fails g c = λ e is file told sized.
    let reader = g.R.Reader.state in
    let cache = g.C.SegmentCache.state in
    let plan = plan_of c.args.self.options file in
    let same : OutOfMemory ≡ e = cc in
    subst (λ x. NotOpened plan c.args.self.options.metadata file (reader c.args.reader) (cache c.args.self.cache) x) same
    (not_opened_behind plan c.args.self.options.metadata file (reader c.args.reader) (reader c.prepare.new.reader) (cache c.args.self.cache) (cache c.prepare.new.cache) c.in-Ok.prepared
    (c.in-Ok.ensures.cause file told sized))

pub returns-clause-opens : goal.returns-clause-opens
returns-clause-opens g c = λ file told sized.
    let reader = g.R.Reader.state in
    let cache = g.C.SegmentCache.state in
    let plan = plan_of c.args.self.options file in
    let p = c.in-Ok.prepared in
    let mid = reader c.prepare.new.reader in
    let filled = cache c.prepare.new.cache in
    let source = c.in-Ok-source_of.source in
    let footers = c.with_metadata.ensures.footer ∙ c.new.ensures.footer in
    let sources = c.with_metadata.ensures.source ∙ c.new.ensures.source in
    opened_parts plan c.args.self.options.metadata file (reader c.args.reader) (cache c.args.self.cache)
    p.footer.content c.with_metadata.result.footer.content p.metadata c.with_metadata.result.metadata source.session c.with_metadata.result.source.session
    mid (reader c.with_metadata.result.source.reader) filled (cache c.with_metadata.result.source.cache)
    (ap (λ f. f.content) footers) c.with_metadata.ensures.metadata (ap (λ s. s.session) sources)
    (ap (λ s. reader s.reader) sources ∙ ap reader c.in-Ok-source_of.ensures.reader) (ap (λ s. cache s.cache) sources ∙ ap cache c.in-Ok-source_of.ensures.cache)
    (opened_by plan c.args.self.options.metadata file (reader c.args.reader) mid (cache c.args.self.cache) filled p c.segment_specs_with_metadata-segments.result.now source.session
    (c.in-Ok.ensures.cause file told sized) c.in-Ok.ensures.same (c.in-Ok.ensures.same.bytes ∙ told) c.segment_specs_with_metadata-segments.ensures
    c.in-Ok-source_of.ensures.stands c.in-Ok-source_of.ensures.bytes)
