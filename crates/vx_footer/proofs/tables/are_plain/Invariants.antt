use Rattle.std.proofs.Common.{◌≡◌, ◌≤◌, ◌*◌, ◌-◌, length}
use Rattle.std.specs.List.{list_all}
use Rattle.vx_footer.specs.Opening.{is_plain}
use Rattle.vx_footer.specs.Tables.{segment_structs}
use Rattle.vx_footer.proofs.tables.are_plain.Given as goal

-- those still to come, for which there are bytes
abbrev pub invariant-loop-at : goal.invariant-loop-at
invariant-loop-at l = record {
  value : list_all is_plain (segment_structs (l.count - l.at) l.rest) ≡ list_all is_plain (segment_structs l.count l.cells);
  room : (l.count - l.at) * 16 ≤ length l.rest;
}
