use Rattle.vx_write.proofs.ReadBackPushed.{opens_again}
use Rattle.vx_write.proofs.read_back.written_rows_are_read.Goals as goal

pub returns : goal.returns
returns c = opens_again
