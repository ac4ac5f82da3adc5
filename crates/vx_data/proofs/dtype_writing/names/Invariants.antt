use Rattle.std.proofs.Common.{◌≡◌, ◌++◌, map, drop}
use Rattle.std.specs.Prelude.{string_bytes}
use Rattle.vx_data.specs.Dtype.{pairs_view}
use Rattle.vx_data.specs.DtypeWritten.{names_of}
use Rattle.vx_data.proofs.dtype_writing.names.Given as goal

-- the names so far and those still to come
abbrev pub invariant-loop-at : goal.invariant-loop-at
invariant-loop-at l = map string_bytes l.names.items ++ names_of (pairs_view (drop l.at l.fields)) ≡ names_of (pairs_view l.fields)
