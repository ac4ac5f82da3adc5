use Rattle.std.proofs.Common.{[], sym, subst}
use Rattle.std.proofs.lemmas.List.{append-nil}
use Rattle.vx_text.specs.Text.{Adds}
use Rattle.vx_text.proofs.HexLemmas.{spelled-none, spelled-behind, spelled-all}
use Rattle.vx_text.proofs.hexadecimal.put_many.Goals as goal

pub loop-left-init : goal.loop-left-init
loop-left-init g c = spelled-none c.args.bytes.now c.args.text.now (g.S.Sink.state c.args.out.now)

pub loop-left-preserved : goal.loop-left-preserved
loop-left-preserved g c =
    let state = g.S.Sink.state in
    spelled-behind c.args.bytes.now c.split_at.result.0.now c.loop-left.left.now c.split_at.result.1.now c.args.text.now c.loop-left.text c.pass_on.new.self
    (state c.args.out.now) (state c.loop-left.out) (state c.pass_on.new.out) c.split_at.ensures.by_index.0 c.loop-left.invariant
    (subst (λ d. Adds d c.loop-left.text (state c.loop-left.out) c.pass_on.new.self (state c.pass_on.new.out)) c.spell.ensures c.pass_on.ensures)

pub returns : goal.returns
returns g c =
    let state = g.S.Sink.state in
    spelled-all c.args.bytes.now c.args.text.now c.put_pieces.new.text (state c.args.out.now) (state c.put_pieces.new.out)
    (spelled-behind c.args.bytes.now c.loop-left.left.now c.loop-left.left.now [] c.args.text.now c.loop-left.text c.put_pieces.new.text
    (state c.args.out.now) (state c.loop-left.out) (state c.put_pieces.new.out) (sym (append-nil c.loop-left.left.now)) c.loop-left.invariant c.put_pieces.ensures)
