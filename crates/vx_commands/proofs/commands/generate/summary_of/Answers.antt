use Rattle.std.proofs.Common.{rules, ◌≡◌, Err}
use Rattle.vx_commands.proofs.Summing.{summed_up, not_summed}
use Rattle.vx_commands.proofs.commands.generate.summary_of.Goals as goal

pub returns : goal.returns
returns c =
    summed_up c.args.seed c.args.rows c.in_ok-made.made _ c.in_ok-made.ensures (record {
      rows = c.row_count.ensures;
      size = c.size.ensures;
      segments = search rules;
      columns = search rules;
      opening = c.in_ok-opening.ensures;
    })

pub returns-in_err-made : goal.returns-in_err-made
returns-in_err-made c =
    let e = c.in_err-made.field-0.0 in
    let is : c.from_residual.result ≡ Err e = search rules in
    rw is (not_summed c.args.seed c.args.rows e c.in_err-made.ensures)
