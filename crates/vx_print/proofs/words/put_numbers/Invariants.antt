use Rattle.std.proofs.Common.{take}
use Rattle.vx_print.specs.Lines.{numbers_after}
use Rattle.vx_text.specs.Text.{Adds}
use Rattle.vx_print.proofs.words.put_numbers.Given as goal

-- what stands in front was added
abbrev pub invariant-loop-number : goal.invariant-loop-number
invariant-loop-number g l = Adds (numbers_after (take l.number-index l.numbers)) l.fn.text (g.S.Sink.state l.fn.out) l.text (g.S.Sink.state l.out)
