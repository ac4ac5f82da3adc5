use Rattle.std.proofs.Common.{refl}
use Rattle.vx_sched.specs.Entries.{entry_at}
use Rattle.vx_sched.specs.Places.{if_waiting}
use Rattle.vx_sched.proofs.KeptLemmas.{filtered-table}
use Rattle.vx_sched.proofs.places.Places.clear.Goals as goal

pub returns : goal.returns
returns c longest t =
    filtered-table c.args.reads.now c.args.self.now _ longest (λ r. if_waiting (entry_at c.args.reads.now r.id)) t (λ r w. w) refl c.keep_waiting.ensures refl refl refl
