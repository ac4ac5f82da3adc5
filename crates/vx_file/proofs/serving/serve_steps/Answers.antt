use Rattle.std.proofs.Common.{◌≡◌, List, [], ◌∷◌, length, refl, inl, inr, rules, ◌∙◌, sym, subst, Err}
use Rattle.vx_file.specs.declared.step.Step.{Step}
use Rattle.vx_base.specs.Readers.{settings_of}
use Rattle.vx_base.specs.declared.segment.SegmentSpec.{SegmentSpec}
use Rattle.vx_source.specs.Stands.{AreFit}
use Rattle.vx_file.specs.declared.served.ServeError.TheVariants.{OutOfMemory}
use Rattle.vx_file.specs.StepsLeft.{steps_left}
use Rattle.vx_file.specs.Plans.{plan_of, world_of}
use Rattle.vx_file.proofs.Opens.{plan-ends}
use Rattle.vx_file.proofs.Prepares.{same-settings}
use Rattle.vx_file.proofs.Serves.{own-world, own-bytes, plays-is, served-is, prepare-refused, prepare-rose, serving-stops, served-unasked}
use Rattle.vx_file.proofs.serving.serve_steps.Goals as goal

pub returns-in_err-prepared-clause-cause : goal.returns-in_err-prepared-clause-cause
returns-in_err-prepared-clause-cause g c = λ file told sized.
    let state = g.R.Reader.state in
    let cache = g.C.SegmentCache.state in
    let e = c.in_err-prepared.field-0.0 in
    let is : c.from_residual.result ≡ Err e = search rules in
    rw is (prepare-refused (plan_of c.args.options file) c.args.options.metadata file (steps_left c.args.steps) (state c.args.reader.now) (state c.prepare.new.reader) (cache c.args.cache.now) (cache c.prepare.new.cache) e (c.in_err-prepared.ensures.cause file told sized))

pub returns-in_err-prepared-clause-fault : goal.returns-in_err-prepared-clause-fault
returns-in_err-prepared-clause-fault g c =
    let state = g.R.Reader.state in
    let cache = g.C.SegmentCache.state in
    let e = c.in_err-prepared.field-0.0 in
    let is : c.from_residual.result ≡ Err e = search rules in
    rw is (prepare-rose e (state c.args.reader.now) (state c.prepare.new.reader) (cache c.args.cache.now) (cache c.prepare.new.cache) c.in_err-prepared.ensures.fault)

pub session_of-requires : goal.session_of-requires
session_of-requires g c = subst (λ (t : List SegmentSpec). AreFit t c.in_ok-prepared.prepared.tail) (sym c.segment_specs_with_metadata-segments.ensures) c.in_ok-prepared.ensures.fit

none-left : (steps : List Step) → length steps ≡ 0 → steps ≡ []
none-left [] e = refl
none-left (x ∷ xs) e = cc

pub returns-then-count-eq0-clause-cause : goal.returns-then-count-eq0-clause-cause
returns-then-count-eq0-clause-cause g c = λ file told sized.
    let state = g.R.Reader.state in
    let cache = g.C.SegmentCache.state in
    let none = none-left (steps_left c.args.steps) (search rules) in
    served-unasked (plan_of c.args.options file) c.args.options.metadata file (steps_left c.args.steps) (state c.args.reader.now) (state c.prepare.new.reader) (cache c.args.cache.now) (cache c.prepare.new.cache)
    c.in_ok-prepared.prepared (c.in_ok-prepared.ensures.cause file told sized) c.new.result none c.new.ensures

pub returns-then-count-eq0-clause-steady : goal.returns-then-count-eq0-clause-steady
returns-then-count-eq0-clause-steady g c = λ file never told sized is. c.in_ok-prepared.ensures.steady file never told sized (inl is)

pub returns-in_err-session-clause-cause : goal.returns-in_err-session-clause-cause
returns-in_err-session-clause-cause g c = λ file told sized.
    let is : c.from_residual-in_err-session.result ≡ Err OutOfMemory = search rules in
    rw is (inr (inl (c.in_ok-prepared.ensures.cause file told sized).ready))

pub returns-in-Err-clause-cause : goal.returns-in-Err-clause-cause
returns-in-Err-clause-cause g c = λ file told sized.
    let state = g.R.Reader.state in
    let cache = g.C.SegmentCache.state in
    let p = c.in_ok-prepared.prepared in
    let h = c.in_ok-prepared.ensures.cause file told sized in
    let plan = plan_of c.args.options file in
    let start = state c.args.reader.now in
    let mid = state c.prepare.new.reader in
    let stands = own-world plan file p start mid h.tail (same-settings start mid c.in_ok-prepared.ensures.same) c.segment_specs_with_metadata-segments.result.now c.segment_specs_with_metadata-segments.ensures c.in_ok-session.session c.in_ok-session.ensures.stands in
    inr (inr (serving-stops plan c.args.options.metadata file (steps_left c.args.steps) start mid (state c.answer_steps.new.reader) (cache c.args.cache.now) (cache c.prepare.new.cache) (cache c.answer_steps.new.cache) p h
    (c.in-Err.ensures.stopped (world_of plan p.footer.content (settings_of start)) stands)))

pub returns-in-Err-clause-steady : goal.returns-in-Err-clause-steady
returns-in-Err-clause-steady g c = λ file never told sized is.
    let state = g.R.Reader.state in
    let prepared = c.in_ok-prepared.ensures in
    let p = c.in_ok-prepared.prepared in
    let h = prepared.cause file told sized in
    let plan = plan_of c.args.options file in
    let start = state c.args.reader.now in
    let mid = state c.prepare.new.reader in
    let stands = own-world plan file p start mid h.tail (same-settings start mid prepared.same) c.segment_specs_with_metadata-segments.result.now c.segment_specs_with_metadata-segments.ensures c.in_ok-session.session c.in_ok-session.ensures.stands in
    c.in-Err.ensures.steady (world_of plan p.footer.content (settings_of start)) file (prepared.same.never_fails ∙ never) (prepared.same.bytes ∙ told) stands (plan-ends c.args.options file c.args.options.footer p.footer.content is h.prepares.footer_is)
    ∙ prepared.steady file never told sized (inl is)

pub returns-clause-steady : goal.returns-clause-steady
returns-clause-steady g c = λ file never told sized is.
    let state = g.R.Reader.state in
    let prepared = c.in_ok-prepared.ensures in
    let p = c.in_ok-prepared.prepared in
    let h = prepared.cause file told sized in
    let plan = plan_of c.args.options file in
    let start = state c.args.reader.now in
    let mid = state c.prepare.new.reader in
    let stands = own-world plan file p start mid h.tail (same-settings start mid prepared.same) c.segment_specs_with_metadata-segments.result.now c.segment_specs_with_metadata-segments.ensures c.in_ok-session.session c.in_ok-session.ensures.stands in
    c.in-Ok.ensures.steady (world_of plan p.footer.content (settings_of start)) file (prepared.same.never_fails ∙ never) (prepared.same.bytes ∙ told) stands (plan-ends c.args.options file c.args.options.footer p.footer.content is h.prepares.footer_is)
    ∙ prepared.steady file never told sized (inl is)

pub returns-clause-cause : goal.returns-clause-cause
returns-clause-cause g c = λ file told sized.
    let state = g.R.Reader.state in
    let cache = g.C.SegmentCache.state in
    let prepared = c.in_ok-prepared.ensures in
    let p = c.in_ok-prepared.prepared in
    let h = prepared.cause file told sized in
    let plan = plan_of c.args.options file in
    let start = state c.args.reader.now in
    let mid = state c.prepare.new.reader in
    let w = world_of plan p.footer.content (settings_of start) in
    let stands = own-world plan file p start mid h.tail (same-settings start mid prepared.same) c.segment_specs_with_metadata-segments.result.now c.segment_specs_with_metadata-segments.ensures c.in_ok-session.session c.in_ok-session.ensures.stands in
    let bytes = own-bytes plan file p h.tail c.in_ok-session.session c.in_ok-session.ensures.bytes in
    let answering = c.in-Ok.ensures.answered w stands in
    served-is plan c.args.options.metadata file (steps_left c.args.steps) start mid (state c.answer_steps.new.reader) (cache c.args.cache.now) (cache c.prepare.new.cache) (cache c.answer_steps.new.cache) p h c.in-Ok.replies
    (plays-is w file (steps_left c.args.steps) mid (state c.answer_steps.new.reader) c.in_ok-session.session (cache c.prepare.new.cache) (cache c.answer_steps.new.cache) c.in-Ok.replies c.answer_steps.new.session (prepared.same.bytes ∙ told) bytes answering)
    answering.asks.log answering.asks.rises
