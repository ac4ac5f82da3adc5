use Rattle.std.proofs.Common.{◌≡◌, drop, length}
use Rattle.vx_sched.specs.Metrics.{with_call}
use Rattle.vx_source.specs.Blocks.{with_cores}
use Rattle.vx_source.proofs.filing.count_block.Given as goal

abbrev pub invariant-loop-span : goal.invariant-loop-span
invariant-loop-span l = with_cores (drop l.span-index l.spans) l.counts ≡ with_cores l.fn.spans (with_call (length l.fn.spans) l.fn.counts)
