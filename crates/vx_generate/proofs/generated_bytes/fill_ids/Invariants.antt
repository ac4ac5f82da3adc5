use Rattle.std.proofs.Common.{◌≡◌, ◌*◌, length, take}
use Rattle.std.specs.List.{flat_map}
use Rattle.vx_data.specs.declared.ptype.PType.TheVariants.{U32}
use Rattle.vx_rows.specs.Span.{span}
use Rattle.vx_rows.specs.Written.{cell}
use Rattle.vx_generate.specs.Generated.{id_of}
use Rattle.vx_generate.proofs.generated_bytes.fill_ids.Given as goal

-- the room in front is filled
abbrev pub invariant-loop-k : goal.invariant-loop-k
invariant-loop-k l = record { long : length l.room ≡ length l.fn.room; filled : take (4 * l.k) l.room ≡ flat_map (cell U32) (span id_of l.first l.k) }
