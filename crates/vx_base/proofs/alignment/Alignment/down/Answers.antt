use Rattle.std.proofs.Common.{◌^◌}
use Rattle.vx_base.proofs.AlignedLemmas.{without_remainder}
use Rattle.vx_base.proofs.alignment.Alignment.down.Goals as goal

pub returns-clause-multiple : goal.returns-clause-multiple
returns-clause-multiple c = rw c.as_u64.ensures.value (without_remainder c.args.offset (2 ^ c.args.self.now))
