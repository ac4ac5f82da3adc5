use Rattle.std.proofs.Common.{refl}
use Rattle.vx_commands.proofs.words.unread.Goals as goal

pub returns-in-OutOfMemory-clause-memory : goal.returns-in-OutOfMemory-clause-memory
returns-in-OutOfMemory-clause-memory g is = refl
