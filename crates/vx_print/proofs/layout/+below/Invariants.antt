use Rattle.std.proofs.Common.{◌*◌, ◌+◌, take}
use Rattle.vx_data.specs.Layout.{layouts_of, tree_size, trees_size}
use Rattle.vx_print.specs.FooterText.{layouts_lines}
use Rattle.vx_text.specs.Text.{Adds}
use Rattle.vx_print.proofs.layout.+below.Given as goal

abbrev pub decreases-put_layout : goal.decreases-put_layout
decreases-put_layout g l = 2 * tree_size l.layout.now

abbrev pub decreases-put_all : goal.decreases-put_all
decreases-put_all g l = 2 * trees_size (layouts_of l.layouts.now) + 1

-- what stands in front was added
abbrev pub invariant-put_all-loop-at : goal.invariant-put_all-loop-at
invariant-put_all-loop-at g l = Adds (layouts_lines l.depth (layouts_of (take l.at l.layouts))) l.fn.text (g.S.Sink.state l.fn.out) l.text (g.S.Sink.state l.out)
