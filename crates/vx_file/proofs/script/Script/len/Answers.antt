use Rattle.std.proofs.Common.{ap, arith, length}
use Rattle.vx_file.proofs.CompactLemmas.{steps-length}
use Rattle.vx_file.proofs.script.Script.len.Goals as goal

pub returns : goal.returns
returns c =
    let inside = c.self.inside in
    let is = c.len.ensures in
    let long = steps-length inside.kinds.items inside.numbers.items in
    let seen = ap length c.self.view_is in
    omega (arith, is, long, seen)
