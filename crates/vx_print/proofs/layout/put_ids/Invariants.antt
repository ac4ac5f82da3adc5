use Rattle.std.proofs.Common.{take}
use Rattle.vx_data.specs.Layout.{numbers_of}
use Rattle.vx_print.specs.Lines.{numbers_after}
use Rattle.vx_text.specs.Text.{Adds}
use Rattle.vx_print.proofs.layout.put_ids.Given as goal

-- what stands in front was added
abbrev pub invariant-loop-id : goal.invariant-loop-id
invariant-loop-id g l = Adds (numbers_after (numbers_of (take l.id-index l.ids))) l.fn.text (g.S.Sink.state l.fn.out) l.text (g.S.Sink.state l.out)
