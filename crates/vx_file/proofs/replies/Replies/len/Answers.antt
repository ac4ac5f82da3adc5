use Rattle.std.proofs.Common.{ap, arith, length}
use Rattle.vx_file.proofs.CompactLemmas.{replies-length}
use Rattle.vx_file.proofs.replies.Replies.len.Goals as goal

pub returns : goal.returns
returns c =
    let inside = c.self.inside in
    let is = c.len.ensures in
    let long = replies-length 0 inside.kinds.items inside.whole.items in
    let seen = ap length c.self.view_is in
    omega (arith, is, long, seen)
