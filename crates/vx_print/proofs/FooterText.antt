-- The text of a footer, line by line.
use Rattle.std.proofs.Common.{◌≡◌, ℕ, List, [], ◌∷◌, subst}
use Rattle.std.specs.Prelude.{codes}
use Rattle.std.specs.List.{flat_map}
use Rattle.vx_base.specs.Streams.{SinkState}
use Rattle.vx_data.specs.Layout.{dtype_of, rows_of}
use Rattle.vx_footer.specs.Footers.{FooterContent}
use Rattle.vx_print.specs.Lines.{line, numbered}
use Rattle.vx_print.specs.FooterText.{dtype_line, layout_lines, segment_line, stats_lines, array_line, meta_line, footer_text}
use Rattle.vx_text.specs.Text.{TextState, Adds}
use Rattle.vx_text.proofs.TextLemmas.{adds_then}

-- what was added is the same where the text is
pub adds-same : {a b : List ℕ} {w w1 : TextState} {s s1 : SinkState} → a ≡ b → Adds a w s w1 s1 → Adds b w s w1 s1
adds-same {w = w} {w1 = w1} {s = s} {s1 = s1} is h = subst (λ t. Adds t w s w1 s1) is h

pub footer-adds : (f : FooterContent) (w w1 w2 w3 w4 w5 w6 w7 : TextState) (s s1 s2 s3 s4 s5 s6 s7 : SinkState)
    → Adds (line (codes "rows") (rows_of f.layout ∷ [])) w s w1 s1 → Adds (dtype_line (dtype_of f.layout)) w1 s1 w2 s2
    → Adds (layout_lines 0 f.layout) w2 s2 w3 s3 → Adds (numbered segment_line 0 f.segments) w3 s3 w4 s4 → Adds (stats_lines f.statistics) w4 s4 w5 s5
    → Adds (numbered array_line 0 f.array_ids) w5 s5 w6 s6 → Adds (flat_map meta_line f.metadata) w6 s6 w7 s7 → Adds (footer_text f) w s w7 s7
footer-adds f w w1 w2 w3 w4 w5 w6 w7 s s1 s2 s3 s4 s5 s6 s7 a b c d e g h = adds_then (adds_then (adds_then (adds_then (adds_then (adds_then a b) c) d) e) g) h
