use Rattle.std.proofs.Common.{◌≡◌, ◌++◌, map, drop}
use Rattle.vx_sched.specs.Picks.{at_place, entries_of}
use Rattle.vx_sched.proofs.gather.Picks.gather_all.Given as goal

abbrev pub invariant-loop-at : goal.invariant-loop-at
invariant-loop-at l = (l.self.reads.entries ++ map at_place (drop l.at l.self.later.items) ≡ entries_of l.initial.self)
    × (l.self.later ≡ l.initial.self.later) × (l.self.last ≡ l.initial.self.last) × (l.self.low ≡ l.initial.self.low) × (l.self.high ≡ l.initial.self.high)
