use Rattle.std.proofs.Common.{◌≡◌, sym, subst, length, rules}
use Rattle.vx_text.specs.Text.{Adds}
use Rattle.vx_commands.proofs.ReplyText.{idle-text}
use Rattle.vx_commands.proofs.print.reply.put_driven.Goals as goal

pub returns-then-is_empty : goal.returns-then-is_empty
returns-then-is_empty g c =
    let state = g.S.Sink.state in
    let none : length c.args.spans.now ≡ 0 = search rules in
    subst (λ line. Adds line c.args.text.now (state c.args.out.now) c.word.new.self (state c.word.new.out)) (sym (idle-text c.args.spans.now none)) c.word.ensures
