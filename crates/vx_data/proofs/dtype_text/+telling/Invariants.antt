use Rattle.std.proofs.Common.{◌≡◌, ◌++◌, true, drop}
use Rattle.std.specs.Prelude.{string_bytes}
use Rattle.vx_data.specs.Dtype.{pairs_view}
use Rattle.vx_data.specs.Texts.{fields_text}
use Rattle.vx_data.proofs.dtype_text.+telling.Given as goal

-- the fields so far and those still to come
abbrev pub invariant-push_all-loop-at : goal.invariant-push_all-loop-at
invariant-push_all-loop-at l =
    string_bytes l.text ++ fields_text l.is_first (pairs_view (drop l.at l.fields)) ≡ string_bytes l.fn.text ++ fields_text true (pairs_view l.fields)
