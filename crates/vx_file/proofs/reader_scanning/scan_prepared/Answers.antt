use Rattle.std.proofs.Common.{◌≡◌, ◌∙◌, Ok, length, sym, subst}
use Rattle.std.specs.Option.{option_map}
use Rattle.vx_data.specs.Layout.{dtype_of as type_of_tree}
use Rattle.vx_rows.specs.Predicates.{pred_view}
use Rattle.vx_source.specs.Stands.{EndsWithin}
use Rattle.vx_source.specs.Sources.{AreOfFile}
use Rattle.vx_base.specs.Caches.{nothing_held}
use Rattle.vx_file.specs.ReaderScans.{filter_on}
use Rattle.vx_file.specs.Scanned.{filter_of}
use Rattle.vx_file.proofs.ReaderScanning.{of_session, of_file, told_rose, told_scan}
use Rattle.vx_file.proofs.reader_scanning.scan_prepared.Goals as goal

pub told-requires : goal.told-requires
told-requires g c = λ e is.
    let state = g.R.Reader.state in
    of_session c.in-Ok-session_of.session.table (state c.args.reader) (state c.scan_session-reader.result.0) e (c.scan_session-reader.ensures.cause e is)

pub returns-clause-rose : goal.returns-clause-rose
returns-clause-rose g c =
    let state = g.R.Reader.state in
    told_rose (state c.args.reader) (state c.scan_session-reader.result.0) c.in-Ok-session_of.session.table c.scan_session-reader.result.1 c.told.result c.scan_session-reader.ensures.cause c.told.ensures

pub returns-clause-steady : goal.returns-clause-steady
returns-clause-steady g c = λ file never told ends.
    let k = c.in-Ok-session_of.session in
    let same = c.in-Ok-session_of.ensures.stands.table ∙ c.segment_specs_with_metadata-segments.ensures in
    c.scan_session-reader.ensures.steady file (record { told = told; never = never; within = subst (EndsWithin (length file)) (sym same) ends })

pub returns-clause-cause : goal.returns-clause-cause
returns-clause-cause g c = λ file told end.
    let state = g.R.Reader.state in
    let reader = state c.args.reader in
    let k = c.in-Ok-session_of.session in
    let f = c.args.prepared.footer.content in
    let p = option_map pred_view c.args.filter in
    let same = c.in-Ok-session_of.ensures.stands.table ∙ c.segment_specs_with_metadata-segments.ensures in
    let binds : filter_on p (type_of_tree f.layout) ≡ Ok (filter_of c.in-Ok.filter) = subst (λ d. filter_on p d ≡ Ok (filter_of c.in-Ok.filter)) c.dtype.ensures c.in-Ok.ensures in
    let scanned = c.scan_session-reader.ensures in
    told_scan file p f (filter_of c.in-Ok.filter) binds reader (state c.scan_session-reader.result.0) (AreOfFile k reader nothing_held) (of_file file k reader told (c.in-Ok-session_of.ensures.bytes file end))
    k.table same c.scan_session-reader.result.1 c.told.result scanned.rows scanned.fails scanned.unread c.told.ensures
