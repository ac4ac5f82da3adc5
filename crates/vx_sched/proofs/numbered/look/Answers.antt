use Rattle.std.proofs.Common.{◌<◌, ◌≤◌, length, get_or, arith}
use Rattle.std.proofs.lemmas.Option.{slice_get-get_or}
use Rattle.vx_sched.proofs.NumberedLemmas.{gap_before}
use Rattle.vx_sched.proofs.numbered.look.Goals as goal

pub returns-else-slots-at-clause-gap : goal.returns-else-slots-at-clause-gap
returns-else-slots-at-clause-gap g c =
    let inside : c.place_of-at.result < length c.args.slots.now = omega (arith, c.place_of-at.ensures.within, c.if-at-slots.false) in
    let here = get_or c.args.slots.now c.place_of-at.result c.index-slots-at.result in
    let above : c.args.number ≤ here.number = c.place_of-at.ensures.above c.place_of-at.result here (slice_get-get_or c.args.slots.now c.place_of-at.result c.index-slots-at.result inside) (omega arith) in
    let less : c.args.number < here.number = omega (arith, above, c.if-slots-at.false) in
    gap_before c.args.slots.now c.place_of-at.result c.index-slots-at.result c.args.number c.requires inside c.place_of-at.ensures.below less
