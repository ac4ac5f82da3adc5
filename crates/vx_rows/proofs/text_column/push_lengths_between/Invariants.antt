use Rattle.std.proofs.Common.{◌≡◌, ◌-◌, ◌≤◌, ◌++◌}
use Rattle.std.specs.List.{flat_map}
use Rattle.std.specs.Int.{w32, to_le_bytes}
use Rattle.vx_rows.specs.Span.{span}
use Rattle.vx_rows.specs.TextsBehind.{length_from}
use Rattle.vx_rows.proofs.text_column.push_lengths_between.Given as goal

abbrev pub decreases-loop-first : goal.decreases-loop-first
decreases-loop-first l = l.rows - l.first

-- the lengths of the rows in front are there
abbrev pub invariant-loop-first : goal.invariant-loop-first
invariant-loop-first l = record { inside : l.first ≤ l.rows; there : l.bytes.items ≡ l.fn.bytes.items ++ flat_map (to_le_bytes w32) (span (length_from l.places) 0 l.first) }
