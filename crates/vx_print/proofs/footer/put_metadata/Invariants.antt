use Rattle.std.proofs.Common.{take}
use Rattle.std.specs.List.{flat_map}
use Rattle.vx_print.specs.FooterText.{meta_line}
use Rattle.vx_text.specs.Text.{Adds}
use Rattle.vx_print.proofs.footer.put_metadata.Given as goal

-- what stands in front was added
abbrev pub invariant-loop-entry : goal.invariant-loop-entry
invariant-loop-entry g l = Adds (flat_map meta_line (take l.entry-index l.entries)) l.fn.text (g.S.Sink.state l.fn.out) l.text (g.S.Sink.state l.out)
