use Rattle.std.proofs.Common.{rules, ◌<◌, ◌^◌, arith}
use Rattle.std.proofs.lemmas.Nat.{shr_le}
use Rattle.vx_sched.proofs.BitLemmas.{none-shifted, lowest-set, lowest-within, lowest-least}
use Rattle.vx_sched.proofs.bits.first_bit.Goals as goal

pub returns-then-rest-eq0-clause-none : goal.returns-then-rest-eq0-clause-none
returns-then-rest-eq0-clause-none c = none-shifted c.args.word c.args.from c.if-rest-eq0.true

pub returns-clause-set : goal.returns-clause-set
returns-clause-set c =
    let fits : c.args.word < 2 ^ 64 = search rules in
    lowest-set c.args.word c.args.from (omega (arith, c.if-rest-eq0.false)) (omega (arith, shr_le c.args.word c.args.from))

pub returns-clause-within : goal.returns-clause-within
returns-clause-within c =
    let fits : c.args.word < 2 ^ 64 = search rules in
    (omega arith, lowest-within c.args.word c.args.from (omega (arith, c.if-rest-eq0.false)) (omega (arith, shr_le c.args.word c.args.from)) fits)

pub returns-clause-least : goal.returns-clause-least
returns-clause-least c =
    let fits : c.args.word < 2 ^ 64 = search rules in
    lowest-least c.args.word c.args.from (omega (arith, c.if-rest-eq0.false)) (omega (arith, shr_le c.args.word c.args.from))
