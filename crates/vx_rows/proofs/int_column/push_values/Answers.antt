use Rattle.std.proofs.Common.{rules, arith}
use Rattle.vx_rows.proofs.CopyLemmas.{cells_again}
use Rattle.vx_rows.proofs.int_column.push_values.Goals as goal

pub returns : goal.returns
returns c =
    let same = cells_again c.args.kind c.args.present.now c.args.held.now c.args.at c.args.count (λ i. omega (arith, c.type_inv.held i)) c.requires.inside c.requires.clear in
    search (rules, same)
