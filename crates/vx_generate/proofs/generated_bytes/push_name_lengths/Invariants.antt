use Rattle.std.proofs.Common.{◌≡◌, ◌++◌, ◌-◌}
use Rattle.std.specs.List.{flat_map}
use Rattle.vx_rows.specs.Span.{span}
use Rattle.vx_rows.specs.Written.{length_bytes}
use Rattle.vx_generate.specs.Generated.{name_of}
use Rattle.vx_generate.proofs.generated_bytes.push_name_lengths.Given as goal

-- what is there and the lengths still to come
abbrev pub invariant-loop-row : goal.invariant-loop-row
invariant-loop-row l = l.bytes.items ++ flat_map length_bytes (span (name_of l.seed) l.row (l.rows - l.row)) ≡ l.fn.bytes.items ++ flat_map length_bytes (span (name_of l.seed) 0 l.rows)
