use Rattle.std.proofs.Common.{arith, ◌++◌, ◌∷◌, [], ◌∙◌, ap, sym, take, map}
use Rattle.std.specs.Prelude.{string_bytes}
use Rattle.vx_tables.specs.Block.{listed}
use Rattle.vx_data.specs.Layout.{layouts_of}
use Rattle.vx_data.specs.LayoutWritten.{trees_pieces}
use Rattle.vx_data.proofs.LayoutTables.{more_pieces, rest_used, next_size}
use Rattle.vx_data.proofs.layout_table.+writing.Goals as goal

pub tables_of-loop-at-preserved : goal.tables_of-loop-at-preserved
tables_of-loop-at-preserved t c =
    let ids = map string_bytes c.args.ids.now in
    let ts = c.args.layouts.now in
    let before = trees_pieces ids (layouts_of (take c.loop-at.at ts)) in
    let pushed = c.in_ok-push.ensures before c.loop-at.invariant.0 in
    let more = more_pieces ids ts c.loop-at.at c.index-layouts-at.result c.loop-at-test.true c.index-layouts-at.is in
    let used = rest_used ids ts c.loop-at.at c.index-layouts-at.result c.loop-at-test.true c.index-layouts-at.is c.loop-at.invariant.1 in
    let step = next_size ts c.loop-at.at c.index-layouts-at.result c.loop-at-test.true c.index-layouts-at.is in
    let size = c.loop-at.invariant.2 in
    (pushed ∙ ap (λ w. listed (before ++ w ∷ [])) c.in_ok-table.ensures ∙ ap listed (sym more), used, omega (arith, step, size))
