use Rattle.std.proofs.Common.{◌≡◌, drop}
use Rattle.vx_rows.specs.Rows.{pairs_view, types_of}
use Rattle.vx_rows.proofs.TypingLemmas.{before_types}
use Rattle.vx_rows.proofs.typing.+typing.Given as goal

-- the types so far and those still to come
abbrev pub invariant-type_all-loop-at : goal.invariant-type_all-loop-at
invariant-type_all-loop-at l = before_types l.types.items (types_of (pairs_view (drop l.at l.columns))) ≡ types_of (pairs_view l.columns)
