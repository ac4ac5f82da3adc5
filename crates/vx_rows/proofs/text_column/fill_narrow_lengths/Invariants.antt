use Rattle.std.proofs.Common.{◌≡◌, ◌*◌, length, take}
use Rattle.std.specs.List.{flat_map}
use Rattle.std.specs.Int.{w32, to_le_bytes}
use Rattle.vx_rows.specs.Span.{span}
use Rattle.vx_rows.specs.TextsBehind.{length_from}
use Rattle.vx_rows.proofs.text_column.fill_narrow_lengths.Given as goal

-- the room in front is filled
abbrev pub invariant-loop-k : goal.invariant-loop-k
invariant-loop-k l = record { long : length l.room ≡ length l.fn.room; filled : take (4 * l.k) l.room ≡ flat_map (to_le_bytes w32) (span (length_from l.places) l.first l.k) }
