use Rattle.std.proofs.Common.{◌≡◌, rules, refl, Err}
use Rattle.vx_base.specs.Readers.{settings_of}
use Rattle.vx_footer.specs.Footers.{segment_table}
use Rattle.vx_source.specs.Kept.{tail_start}
use Rattle.vx_file.specs.Plans.{table_world}
use Rattle.vx_file.proofs.Prepares.{begins, begins-bytes}
use Rattle.vx_file.proofs.prepared.load_if.Goals as goal

pub returns-in_err-loaded-clause-cause : goal.returns-in_err-loaded-clause-cause
returns-in_err-loaded-clause-cause g c = λ file told end.
    let table = segment_table c.args.footer.now.content in
    let settings = settings_of (g.R.Reader.state c.args.reader.now) in
    let stands = begins c.segment_specs_with_metadata-segments.result.now table settings c.in_ok-tail.tail c.args.tail.now c.in_ok-session.session c.segment_specs_with_metadata-segments.ensures c.in_ok-tail.ensures c.in_ok-session.ensures.stands in
    let bytes = begins-bytes c.in_ok-tail.tail c.args.tail.now c.in_ok-session.session file c.in_ok-tail.ensures c.in_ok-session.ensures.bytes end in
    let is : c.from_residual-in_err-loaded.result ≡ Err c.in_err-loaded.field-0.0 = search rules in
    rw is (c.in_err-loaded.ensures.cause (table_world table settings (tail_start c.args.tail.now)) file told stands bytes refl)

pub returns-in_err-loaded-clause-steady : goal.returns-in_err-loaded-clause-steady
returns-in_err-loaded-clause-steady g c = λ file never told inside.
    let table = segment_table c.args.footer.now.content in
    let settings = settings_of (g.R.Reader.state c.args.reader.now) in
    let stands = begins c.segment_specs_with_metadata-segments.result.now table settings c.in_ok-tail.tail c.args.tail.now c.in_ok-session.session c.segment_specs_with_metadata-segments.ensures c.in_ok-tail.ensures c.in_ok-session.ensures.stands in
    c.in_err-loaded.ensures.steady (table_world table settings (tail_start c.args.tail.now)) file never told stands inside

pub returns-clause-cause : goal.returns-clause-cause
returns-clause-cause g c = λ file told end.
    let table = segment_table c.args.footer.now.content in
    let settings = settings_of (g.R.Reader.state c.args.reader.now) in
    let stands = begins c.segment_specs_with_metadata-segments.result.now table settings c.in_ok-tail.tail c.args.tail.now c.in_ok-session.session c.segment_specs_with_metadata-segments.ensures c.in_ok-tail.ensures c.in_ok-session.ensures.stands in
    let bytes = begins-bytes c.in_ok-tail.tail c.args.tail.now c.in_ok-session.session file c.in_ok-tail.ensures c.in_ok-session.ensures.bytes end in
    let both = c.in_ok-loaded.ensures.cause (table_world table settings (tail_start c.args.tail.now)) file told stands bytes refl in
    (search rules, both.0, both.1)

pub returns-clause-slices : goal.returns-clause-slices
returns-clause-slices g c = λ file told end t.
    let table = segment_table c.args.footer.now.content in
    let settings = settings_of (g.R.Reader.state c.args.reader.now) in
    let stands = begins c.segment_specs_with_metadata-segments.result.now table settings c.in_ok-tail.tail c.args.tail.now c.in_ok-session.session c.segment_specs_with_metadata-segments.ensures c.in_ok-tail.ensures c.in_ok-session.ensures.stands in
    let bytes = begins-bytes c.in_ok-tail.tail c.args.tail.now c.in_ok-session.session file c.in_ok-tail.ensures c.in_ok-session.ensures.bytes end in
    c.in_ok-loaded.ensures.slices (table_world table settings (tail_start c.args.tail.now)) file told stands bytes t

pub returns-clause-steady : goal.returns-clause-steady
returns-clause-steady g c = λ file never told inside.
    let table = segment_table c.args.footer.now.content in
    let settings = settings_of (g.R.Reader.state c.args.reader.now) in
    let stands = begins c.segment_specs_with_metadata-segments.result.now table settings c.in_ok-tail.tail c.args.tail.now c.in_ok-session.session c.segment_specs_with_metadata-segments.ensures c.in_ok-tail.ensures c.in_ok-session.ensures.stands in
    c.in_ok-loaded.ensures.steady (table_world table settings (tail_start c.args.tail.now)) file never told stands inside
