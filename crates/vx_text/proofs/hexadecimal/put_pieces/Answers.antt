use Rattle.vx_text.proofs.HexLemmas.{spelled-none, spelled-more}
use Rattle.vx_text.proofs.hexadecimal.put_pieces.Goals as goal

pub loop-left-init : goal.loop-left-init
loop-left-init g c = spelled-none c.args.bytes.now c.args.text.now (g.S.Sink.state c.args.out.now)

pub loop-left-preserved : goal.loop-left-preserved
loop-left-preserved g c =
    spelled-more c.args.bytes.now c.split_at.result.0.now c.loop-left.left.now c.split_at.result.1.now c.args.text.now c.loop-left.text c.make_room_for.new.self c.put_bytes.new.text
    (g.S.Sink.state c.args.out.now) (g.S.Sink.state c.loop-left.out) (g.S.Sink.state c.make_room_for.new.out)
    c.split_at.ensures.by_index.0 c.loop-left.invariant c.make_room_for.ensures.adds c.put_bytes.ensures
