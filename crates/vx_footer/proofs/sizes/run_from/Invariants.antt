use Rattle.std.proofs.Common.{◌≡◌, ◌≤◌, ◌<◌, ◌+◌, ◌-◌, ◌*◌, length, drop, None}
use Rattle.std.specs.Prelude.{if◌then◌else◌, slice_index_or}
use Rattle.vx_data.specs.Paths.{Path}
use Rattle.vx_footer.specs.CommonPaths.{is_within, length_within}
use Rattle.vx_footer.proofs.sizes.run_from.Given as goal

abbrev pub decreases-loop-end : goal.decreases-loop-end
decreases-loop-end l = length l.segments - l.end

-- the segments of the run so far and those behind it
abbrev pub invariant-loop-end : goal.invariant-loop-end
invariant-loop-end l = record {
  further : l.from < l.end;
  within : l.end ≤ length l.segments;
  few : l.bytes ≤ (l.end - l.from) * 4294967295;
  sum : (q : Path) → length_within q (drop l.from l.gathered.commons) (drop l.from l.segments)
      ≡ (if is_within q (slice_index_or l.gathered.commons l.from None) then l.bytes else 0) + length_within q (drop l.end l.gathered.commons) (drop l.end l.segments);
}
