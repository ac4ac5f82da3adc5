use Rattle.std.proofs.Common.{◌≡◌, ℕ, ◌-◌, ◌^◌, ◌<◌, ◌≤◌, true}
use Rattle.vx_sched.specs.Picks.{is_among}
use Rattle.vx_sched.specs.Entries.{entry_at}
use Rattle.vx_sched.specs.Told.{polls_in}
use Rattle.vx_sched.proofs.table.next_of.Given as goal

abbrev pub invariant-loop-number : goal.invariant-loop-number
invariant-loop-number l = (q : ℕ) → l.from ≤ q → q < l.at → polls_in (entry_at l.reads q) ≡ true → is_among l.taken q ≡ true

-- how many numbers were not looked at
abbrev pub decreases-loop-number : goal.decreases-loop-number
decreases-loop-number l = 2 ^ 64 - l.at
