use Rattle.vx_write.proofs.SendingLemmas.{zeros_first}
use Rattle.vx_write.proofs.output.few_zeros.Goals as goal

pub returns : goal.returns
returns c = zeros_first c.args.count 64 c.requires
