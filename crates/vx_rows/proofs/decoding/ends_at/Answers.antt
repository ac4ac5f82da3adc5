use Rattle.std.proofs.Common.{arith}
use Rattle.vx_rows.proofs.decoding.ends_at.Goals as goal

pub returns-clause-bytes : goal.returns-clause-bytes
returns-clause-bytes c i = omega (arith, c.type_inv.bytes i)
