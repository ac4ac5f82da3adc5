use Rattle.std.proofs.Common.{◌≡◌, ◌++◌, map, drop}
use Rattle.vx_sched.specs.Io.{request_of}
use Rattle.vx_sched.specs.Outcomes.{AreOutcomesOf}
use Rattle.vx_source.specs.Blocks.{reports_of, filed_of}
use Rattle.vx_source.proofs.filing.block_of.Given as goal

abbrev pub invariant-loop-span : goal.invariant-loop-span
invariant-loop-span l = record {
  left : AreOutcomesOf (map request_of (drop l.span-index l.spans)) l.left.rest.items;
  reports : l.block.reports.items ++ reports_of (drop l.span-index l.spans) l.left.rest.items ≡ reports_of l.fn.spans l.fn.outcomes.items;
  filed : l.block.filed.items ++ filed_of (drop l.span-index l.spans) l.left.rest.items ≡ filed_of l.fn.spans l.fn.outcomes.items;
}
