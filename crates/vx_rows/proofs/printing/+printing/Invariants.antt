use Rattle.std.proofs.Common.{◌≡◌, ◌++◌, true, drop}
use Rattle.std.specs.Prelude.{string_bytes}
use Rattle.vx_rows.specs.Rows.{pairs_view}
use Rattle.vx_rows.specs.ValueTexts.{fields_text}
use Rattle.vx_rows.proofs.printing.+printing.Given as goal

-- the fields so far and those still to come
abbrev pub invariant-push_all-loop-at : goal.invariant-push_all-loop-at
invariant-push_all-loop-at l =
    string_bytes l.text ++ fields_text l.is_first (pairs_view (drop l.at l.columns)) l.row ≡ string_bytes l.fn.text ++ fields_text true (pairs_view l.columns) l.row
