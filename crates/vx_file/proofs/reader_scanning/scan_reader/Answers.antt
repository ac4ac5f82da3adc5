use Rattle.std.proofs.Common.{◌∙◌}
use Rattle.std.specs.Option.{option_map}
use Rattle.vx_rows.specs.Predicates.{pred_view}
use Rattle.vx_base.specs.Caches.{nothing_held}
use Rattle.vx_file.specs.Plans.{plan_of}
use Rattle.vx_file.proofs.Opens.{bounded-ends}
use Rattle.vx_file.proofs.ReaderScanning.{scans_opened, scans_unopened}
use Rattle.vx_file.proofs.Serves.{tail-end}
use Rattle.vx_file.proofs.reader_scanning.scan_reader.Goals as goal

pub returns-in-Ok-clause-scans : goal.returns-in-Ok-clause-scans
returns-in-Ok-clause-scans g c = λ file told sized.
    let state = g.R.Reader.state in
    let prepared = c.in-Ok.ensures in
    let h = prepared.cause file told sized in
    let plan = plan_of c.args.options.now file in
    scans_opened plan c.args.options.now.metadata file (option_map pred_view c.args.filter) (state c.args.reader) (state c.prepare.new.reader) (state c.scan_prepared.result.0) nothing_held c.in-Ok.prepared h
    c.scan_prepared.result.1 (c.scan_prepared.ensures.cause file (prepared.same.bytes ∙ told) (tail-end file plan.start c.in-Ok.prepared.tail h.tail))

pub returns-in-Ok-clause-steady : goal.returns-in-Ok-clause-steady
returns-in-Ok-clause-steady g c = λ file never told sized bounded.
    let prepared = c.in-Ok.ensures in
    let h = prepared.cause file told sized in
    c.scan_prepared.ensures.steady file (prepared.same.never_fails ∙ never) (prepared.same.bytes ∙ told) (bounded-ends c.args.options.now file c.in-Ok.prepared.footer.content bounded h.prepares.footer_is)
    ∙ prepared.steady file never told sized bounded

pub returns-in-Err-clause-scans : goal.returns-in-Err-clause-scans
returns-in-Err-clause-scans g c = λ file told sized.
    let state = g.R.Reader.state in
    scans_unopened (plan_of c.args.options.now file) c.args.options.now.metadata file (option_map pred_view c.args.filter) (state c.args.reader) (state c.prepare.new.reader) c.in-Err.error c.opening_failure.result c.opening_failure.ensures
    (c.in-Err.ensures.cause file told sized)
