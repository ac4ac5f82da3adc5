use Rattle.std.proofs.Common.{◌≡◌, ◌∙◌, rules, inr, Err}
use Rattle.vx_file.specs.declared.served.ServeError.TheVariants.{OutOfMemory}
use Rattle.vx_file.specs.Plans.{plan_of}
use Rattle.vx_file.specs.Serving.{put_error}
use Rattle.vx_file.proofs.Opens.{bounded-ends}
use Rattle.vx_file.proofs.Prepares.{put-refused, load-refused, prepared-is, same-settings, ends-there}
use Rattle.vx_file.proofs.prepared.prepare.Goals as goal

pub returns-in_err-put_tail-clause-cause : goal.returns-in_err-put_tail-clause-cause
returns-in_err-put_tail-clause-cause g c = λ file told sized.
    let reader = g.R.Reader.state in
    let cache = g.C.SegmentCache.state in
    let e = c.in_err-put_tail.field-0.0 in
    let is : c.from_residual-in_err-put_tail.result ≡ Err (put_error e) = search rules in
    rw is (put-refused (plan_of c.args.options.now file) c.args.options.now.metadata file (reader c.args.reader.now) (reader c.open_file.new.reader) c.in_ok-opened.opened (c.in_ok-opened.ensures.cause file told sized)
    (cache c.args.cache.now) (cache c.put_tail.new.cache) e)

pub returns-in_err-loaded-clause-cause : goal.returns-in_err-loaded-clause-cause
returns-in_err-loaded-clause-cause g c = λ file told sized.
    let reader = g.R.Reader.state in
    let cache = g.C.SegmentCache.state in
    let plan = plan_of c.args.options.now file in
    let opened = c.in_ok-opened.ensures in
    let h = opened.cause file told sized in
    let e = c.in_err-loaded.field-0.0 in
    let is : c.from_residual-in_err-loaded.result ≡ Err e = search rules in
    rw is (load-refused plan c.args.options.now.metadata file (reader c.args.reader.now) (reader c.open_file.new.reader) c.in_ok-opened.opened h c.segment_specs_with_metadata.result.now c.segment_specs_with_metadata.ensures
    (same-settings (reader c.args.reader.now) (reader c.open_file.new.reader) opened.same) (cache c.args.cache.now) (cache c.put_tail.new.cache) c.in_ok-put_tail.ensures.gains (reader c.load_if.new.reader) (cache c.load_if.new.cache) e
    (c.in_err-loaded.ensures.cause file (opened.same.bytes ∙ told) (ends-there plan c.args.options.now.metadata file (reader c.args.reader.now) (reader c.open_file.new.reader) c.in_ok-opened.opened h)))

pub returns-in_err-loaded-clause-steady : goal.returns-in_err-loaded-clause-steady
returns-in_err-loaded-clause-steady g c = λ file never told sized is.
    let opened = c.in_ok-opened.ensures in
    let h = opened.cause file told sized in
    c.in_err-loaded.ensures.steady file (opened.same.never_fails ∙ never) (opened.same.bytes ∙ told) (bounded-ends c.args.options.now file c.in_ok-opened.opened.footer.content is h.footer)
    ∙ opened.steady file never told sized

pub returns-in_err-metadata-clause-cause : goal.returns-in_err-metadata-clause-cause
returns-in_err-metadata-clause-cause g c = λ file told sized.
    let reader = g.R.Reader.state in
    let cache = g.C.SegmentCache.state in
    let plan = plan_of c.args.options.now file in
    let opened = c.in_ok-opened.ensures in
    let h = opened.cause file told sized in
    let end = ends-there plan c.args.options.now.metadata file (reader c.args.reader.now) (reader c.open_file.new.reader) c.in_ok-opened.opened h in
    let loaded = c.in_ok-loaded.ensures in
    let is : c.from_residual-in_err-metadata.result ≡ Err OutOfMemory = search rules in
    rw is (inr (prepared-is plan c.args.options.now.metadata file (reader c.args.reader.now) (reader c.open_file.new.reader) c.in_ok-opened.opened h c.segment_specs_with_metadata.result.now c.segment_specs_with_metadata.ensures
    (same-settings (reader c.args.reader.now) (reader c.open_file.new.reader) opened.same) (cache c.args.cache.now) (cache c.put_tail.new.cache) c.in_ok-put_tail.ensures.gains (reader c.load_if.new.reader) (cache c.load_if.new.cache)
    (λ t. loaded.slices file (opened.same.bytes ∙ told) end t) c.in_ok-loaded.loaded (loaded.cause file (opened.same.bytes ∙ told) end)).ready)

pub returns-in_err-metadata-clause-steady : goal.returns-in_err-metadata-clause-steady
returns-in_err-metadata-clause-steady g c = λ file never told sized is.
    let opened = c.in_ok-opened.ensures in
    let h = opened.cause file told sized in
    c.in_ok-loaded.ensures.steady file (opened.same.never_fails ∙ never) (opened.same.bytes ∙ told) (bounded-ends c.args.options.now file c.in_ok-opened.opened.footer.content is h.footer)
    ∙ opened.steady file never told sized

pub returns-clause-cause : goal.returns-clause-cause
returns-clause-cause g c = λ file told sized.
    let reader = g.R.Reader.state in
    let cache = g.C.SegmentCache.state in
    let plan = plan_of c.args.options.now file in
    let opened = c.in_ok-opened.ensures in
    let h = opened.cause file told sized in
    let end = ends-there plan c.args.options.now.metadata file (reader c.args.reader.now) (reader c.open_file.new.reader) c.in_ok-opened.opened h in
    let loaded = c.in_ok-loaded.ensures in
    rw c.in_ok-metadata.ensures.values (rw c.in_ok-metadata.ensures.ranges
    (prepared-is plan c.args.options.now.metadata file (reader c.args.reader.now) (reader c.open_file.new.reader) c.in_ok-opened.opened h c.segment_specs_with_metadata.result.now c.segment_specs_with_metadata.ensures
    (same-settings (reader c.args.reader.now) (reader c.open_file.new.reader) opened.same) (cache c.args.cache.now) (cache c.put_tail.new.cache) c.in_ok-put_tail.ensures.gains (reader c.load_if.new.reader) (cache c.load_if.new.cache)
    (λ t. loaded.slices file (opened.same.bytes ∙ told) end t) c.in_ok-loaded.loaded (loaded.cause file (opened.same.bytes ∙ told) end)))

pub returns-clause-steady : goal.returns-clause-steady
returns-clause-steady g c = λ file never told sized is.
    let opened = c.in_ok-opened.ensures in
    let h = opened.cause file told sized in
    c.in_ok-loaded.ensures.steady file (opened.same.never_fails ∙ never) (opened.same.bytes ∙ told) (bounded-ends c.args.options.now file c.in_ok-opened.opened.footer.content is h.footer)
    ∙ opened.steady file never told sized
