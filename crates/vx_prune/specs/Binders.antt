-- The statistics of a file beside its type, and what is known of operands, as plain data.
use Rattle.std.specs.Prelude.{List, Option}
use Rattle.std.specs.Option.{option_map}
use Rattle.std.specs.Borrow.{Bor}
use Rattle.vx_data.specs.declared.scalar.Scalar.{Scalar}
use Rattle.vx_data.specs.Dtype.{Dtype, dtype_view}
use Rattle.vx_data.specs.Scalar.{Value, scalar_view}
use Rattle.vx_data.specs.Stats.{Stats}
use Rattle.vx_prune.specs.declared.binder.FileStatsBinder.{FileStatsBinder}
use Rattle.vx_prune.specs.declared.known.Known.{Known as Held}
use Rattle.vx_prune.specs.Never.{Known}

abbrev pub sets_of : FileStatsBinder → List Stats
sets_of b = b.file_stats.now.sets

abbrev pub dtype_of : FileStatsBinder → Dtype
dtype_of b = dtype_view b.dtype.now

abbrev pub lent_value : Option (Bor Scalar) → Option Value
lent_value v = option_map (λ s. scalar_view s.now) v

abbrev pub known_view : Held → Known
known_view k = record { low = lent_value k.low; high = lent_value k.high; always_null = k.always_null; never_null = k.never_null }
