use Rattle.std.proofs.Common.{◌≡◌, ℕ, drop}
use Rattle.vx_sched.specs.Entries.{all_changed}
use Rattle.vx_sched.specs.Kept.{IsKept}
use Rattle.vx_sched.proofs.table.change_entries.Given as goal

abbrev pub invariant-loop-read : goal.invariant-loop-read
invariant-loop-read l = (all_changed l.change l.reads (drop l.read-index l.span) ≡ all_changed l.change l.initial.reads l.span)
    × ((longest : ℕ) → IsKept l.initial.reads l.initial.places longest → IsKept l.reads l.places longest)
