use Rattle.std.proofs.Common.{◌≡◌, ◌++◌, drop}
use Rattle.std.specs.List.{flat_map}
use Rattle.vx_rows.specs.Written.{length_bytes}
use Rattle.vx_rows.proofs.text_column.TextColumn.push_lengths.Given as goal

abbrev pub invariant-loop-row : goal.invariant-loop-row
invariant-loop-row l = l.bytes.items ++ flat_map length_bytes (drop l.row l.self.rows) ≡ l.fn.bytes.items ++ flat_map length_bytes l.self.rows
