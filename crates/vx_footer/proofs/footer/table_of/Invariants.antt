use Rattle.std.proofs.Common.{◌≡◌, ◌++◌, drop}
use Rattle.vx_footer.specs.Footers.{metadata_specs}
use Rattle.vx_footer.proofs.footer.table_of.Given as goal

-- the segments so far and those still to come
abbrev pub invariant-loop-at : goal.invariant-loop-at
invariant-loop-at l = l.table.items ++ metadata_specs (drop l.at l.metadata) ≡ l.fn.segments.items ++ metadata_specs l.metadata
