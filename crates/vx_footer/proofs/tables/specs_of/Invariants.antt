use Rattle.std.proofs.Common.{◌≡◌, ◌≤◌, ◌*◌, ◌-◌, length}
use Rattle.vx_footer.specs.Opening.{aligned_specs}
use Rattle.vx_footer.specs.Tables.{segment_structs}
use Rattle.vx_footer.proofs.Specs.{specs_before}
use Rattle.vx_footer.proofs.tables.specs_of.Given as goal

-- the segments so far and those still to come, for which there are bytes
abbrev pub invariant-loop-at : goal.invariant-loop-at
invariant-loop-at l = record {
  value : specs_before l.specs.items (aligned_specs (segment_structs (l.count - l.at) l.rest)) ≡ aligned_specs (segment_structs l.count l.cells);
  room : (l.count - l.at) * 16 ≤ length l.rest;
}
