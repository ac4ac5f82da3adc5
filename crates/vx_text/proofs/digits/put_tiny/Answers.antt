use Rattle.std.proofs.lemmas.Fmt.{decimal_digit}
use Rattle.itoa.proofs.Decimal.{decimal_two}
use Rattle.vx_text.proofs.digits.put_tiny.Goals as goal

pub returns-then-number-lt10-clause-puts : goal.returns-then-number-lt10-clause-puts
returns-then-number-lt10-clause-puts c = rw (decimal_digit c.args.number c.if-number-lt10.true) c.put_one.ensures.puts

pub returns-clause-puts : goal.returns-clause-puts
returns-clause-puts c = rw (decimal_two c.args.number c.if-number-lt10.false c.requires.small) c.put_pair.ensures.puts
