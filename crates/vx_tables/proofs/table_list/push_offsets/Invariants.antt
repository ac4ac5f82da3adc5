use Rattle.std.proofs.Common.{◌≡◌, ◌++◌, drop}
use Rattle.vx_tables.specs.Block.{offsets}
use Rattle.vx_tables.proofs.table_list.push_offsets.Given as goal

-- the offsets so far and those still to come
abbrev pub invariant-loop-lead : goal.invariant-loop-lead
invariant-loop-lead l = l.out.items ++ offsets l.at l.fixed (drop l.lead-index l.leads) ≡ l.initial.out.items ++ offsets 4 l.fixed l.leads
