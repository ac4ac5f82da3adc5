use Rattle.std.proofs.Common.{sym, ap, ◌∙◌}
use Rattle.vx_rows.specs.ReadRows.{no_rows}
use Rattle.vx_rows.specs.Rows.{column_view}
use Rattle.vx_file.specs.Scanned.{filter_of, is_skipped}
use Rattle.vx_file.proofs.ScanningLemmas.{scanned_skipped, true_false}
use Rattle.vx_file.proofs.scan.scan_rows.Goals as goal

pub returns-then-skips-clause-rows : goal.returns-then-skips-clause-rows
returns-then-skips-clause-rows g c =
    let e = c.in_ok-empty.ensures in
    scanned_skipped (g.S.SegmentSource.serves c.args.source.now) (g.S.SegmentSource.state c.args.source.now) c.args.footer.now.content (filter_of c.args.filter.now) (column_view c.in_ok-empty.field-0)
    (sym c.skips.ensures ∙ c.if-skips.true) (e.value ∙ ap no_rows c.dtype.ensures) (e.typed ∙ c.dtype.ensures) e.sound

pub returns-clause-fails : goal.returns-clause-fails
returns-clause-fails g c = λ e is. record {
  skipped = λ pruned. absurd (true_false (is_skipped (filter_of c.args.filter.now) c.args.footer.now.content) (sym c.skips.ensures ∙ c.if-skips.false) pruned);
  first = c.read_matching.ensures.fails e is;
}
