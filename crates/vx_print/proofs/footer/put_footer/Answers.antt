use Rattle.std.proofs.Common.{◌∷◌, [], ◌++◌, ap}
use Rattle.std.specs.Prelude.{codes}
use Rattle.std.specs.List.{flat_map}
use Rattle.vx_print.specs.Lines.{numbered}
use Rattle.vx_print.specs.FooterText.{layout_lines, segment_line, stats_lines, array_line, meta_line}
use Rattle.vx_print.proofs.FooterText.{adds-same, footer-adds}
use Rattle.vx_print.proofs.footer.put_footer.Goals as goal

pub returns : goal.returns
returns g c =
    let state = g.S.Sink.state in
    footer-adds c.args.footer.now.content
    c.args.text.now c.put_rows.new.text c.put_dtype.new.text c.put_layout.new.text c.put_segments.new.text c.put_statistics.new.text c.put_arrays.new.text c.put_metadata.new.text
    (state c.args.out.now) (state c.put_rows.new.out) (state c.put_dtype.new.out) (state c.put_layout.new.out) (state c.put_segments.new.out) (state c.put_statistics.new.out)
    (state c.put_arrays.new.out) (state c.put_metadata.new.out)
    c.put_rows.ensures (adds-same (ap (λ d. codes "dtype " ++ d ++ 10 ∷ []) c.requires) c.put_dtype.ensures) (adds-same (ap (layout_lines 0) c.layout.ensures) c.put_layout.ensures)
    (adds-same (ap (numbered segment_line 0) c.segment_map.ensures) c.put_segments.ensures) (adds-same (ap stats_lines c.statistics.ensures) c.put_statistics.ensures)
    (adds-same (ap (numbered array_line 0) c.array_ids.ensures) c.put_arrays.ensures) (adds-same (ap (flat_map meta_line) c.metadata.ensures) c.put_metadata.ensures)
