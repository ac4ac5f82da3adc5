use Rattle.std.proofs.Common.{subst, sym}
use Rattle.vx_commands.specs.Outputs.{text_of}
use Rattle.vx_text.specs.Text.{Adds}
use Rattle.vx_commands.proofs.answer.Answer.put.Goals as goal

pub returns-in-Rows : goal.returns-in-Rows
returns-in-Rows g c =
    let before = g.S.Sink.state c.args.out.now in
    let now = g.S.Sink.state c.put_rows.new.out in
    subst (λ answer. Adds (text_of answer) c.args.text.now before c.put_rows.new.text now) (sym c.in-Rows.is) c.put_rows.ensures
