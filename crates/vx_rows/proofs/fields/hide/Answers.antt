use Rattle.std.proofs.Common.{sym, ◌∙◌}
use Rattle.vx_rows.proofs.FieldRowLemmas.{hides_none, hides_some}
use Rattle.vx_rows.proofs.fields.hide.Goals as goal

pub returns-then-are_there : goal.returns-then-are_there
returns-then-are_there c = hides_none c.args.shown c.args.rows.now c.args.count (sym c.are_there.ensures ∙ c.if-are_there.true)

pub returns : goal.returns
returns c = hides_some c.args.shown c.args.rows.now c.args.count c.new.result (c.new.ensures ∙ c.in_ok-bits.ensures)
