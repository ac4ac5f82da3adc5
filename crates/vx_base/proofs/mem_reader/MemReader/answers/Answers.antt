use Rattle.std.proofs.Common.{arith, length}
use Rattle.std.proofs.lemmas.Grind.{common_steps}
use Rattle.vx_base.proofs.MemoryLemmas.{well_behaved-faulted}
use Rattle.vx_base.proofs.mem_reader.MemReader.answers.Goals as goal

pub returns-clause-unmarked : goal.returns-clause-unmarked
returns-clause-unmarked c w inside = well_behaved-faulted c.args.self.now.bytes c.args.self.now.mischief (length c.args.self.now.log) c.args.asked.now c.push_turn-2.new.answers.items w inside (grind (arith, common_steps))
