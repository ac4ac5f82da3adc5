use Rattle.std.proofs.Common.{◌≡◌, Err, map, rules, subst}
use Rattle.std.specs.Prelude.{string_bytes}
use Rattle.vx_data.specs.Layout.{rows_of as tree_rows}
use Rattle.vx_rows.specs.Rows.{column_view}
use Rattle.vx_file.specs.Scans.{IsRead, IsOf, NamesFirst, flats_of}
use Rattle.vx_file.specs.Scanned.{filter_of}
use Rattle.vx_file.proofs.ScanningLemmas.{scanned_read, even_is}
use Rattle.vx_file.proofs.scan.read_matching.Goals as goal

pub returns-in_err-column-clause-fails : goal.returns-in_err-column-clause-fails
returns-in_err-column-clause-fails g c = λ e is.
    let serves = g.S.SegmentSource.serves c.args.source.now in
    let before = g.S.SegmentSource.state c.args.source.now in
    let after = g.S.SegmentSource.state c.read_layout.new.source in
    let f = c.args.footer.now.content in
    let was : c.read_layout.result ≡ Err e = search rules in
    subst (λ ids. NamesFirst serves before after ids (flats_of f.layout) e) c.array_ids.ensures
    (subst (λ t. NamesFirst serves before after (map string_bytes c.array_ids.result.now) (flats_of t) e) c.layout.ensures (c.read_layout.ensures.fails e was))

pub matching_rows-requires : goal.matching_rows-requires
matching_rows-requires g c = even_is (tree_rows c.layout.result.now) (column_view c.in_ok-column.column) c.in_ok-column.ensures.typed.1

pub returns-clause-rows : goal.returns-clause-rows
returns-clause-rows g c =
    let serves = g.S.SegmentSource.serves c.args.source.now in
    let source = g.S.SegmentSource.state c.args.source.now in
    let f = c.args.footer.now.content in
    let all = column_view c.in_ok-column.column in
    let read = subst (λ ids. IsRead serves source ids f.layout all) c.array_ids.ensures
    (subst (λ t. IsRead serves source (map string_bytes c.array_ids.result.now) t all) c.layout.ensures c.in_ok-column.ensures.reads) in
    let of = subst (λ t. IsOf t all) c.layout.ensures c.in_ok-column.ensures.typed in
    let e = c.in_ok-matching_rows.ensures in
    scanned_read serves source f (filter_of c.args.filter.now) all (column_view c.in_ok-matching_rows.field-0) c.requires read of e.value e.typed e.sound
