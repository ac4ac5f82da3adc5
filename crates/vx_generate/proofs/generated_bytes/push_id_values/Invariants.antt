use Rattle.std.proofs.Common.{◌≡◌, ◌-◌, ◌≤◌, ◌++◌}
use Rattle.std.specs.List.{flat_map}
use Rattle.vx_data.specs.declared.ptype.PType.TheVariants.{U32}
use Rattle.vx_rows.specs.Span.{span}
use Rattle.vx_rows.specs.Written.{cell}
use Rattle.vx_generate.specs.Generated.{id_of}
use Rattle.vx_generate.proofs.generated_bytes.push_id_values.Given as goal

abbrev pub decreases-loop-first : goal.decreases-loop-first
decreases-loop-first l = l.rows - l.first

-- the values of the rows in front are there
abbrev pub invariant-loop-first : goal.invariant-loop-first
invariant-loop-first l = record { inside : l.first ≤ l.rows; there : l.bytes.items ≡ l.fn.bytes.items ++ flat_map (cell U32) (span id_of 0 l.first) }
