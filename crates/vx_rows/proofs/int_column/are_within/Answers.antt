use Rattle.std.proofs.Common.{arith}
use Rattle.vx_rows.proofs.SoundLemmas.{read_within}
use Rattle.vx_rows.proofs.int_column.are_within.Goals as goal

pub returns : goal.returns
returns c = read_within c.args._kind c.args._present.now c.args.bytes.now c.args._at c.args._count (λ i. omega (arith, c.type_inv.bytes i)) (omega (arith, c.requires))
