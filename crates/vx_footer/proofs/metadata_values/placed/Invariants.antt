use Rattle.std.proofs.Common.{◌≡◌, ◌++◌, true, drop}
use Rattle.std.specs.List.{list_all}
use Rattle.vx_footer.specs.Serializing.{values_view, is_short, placed_entries, values_end}
use Rattle.vx_footer.proofs.metadata_values.placed.Given as goal

-- the entries so far and those still to come, whose values are short and end where all do
abbrev pub invariant-loop-at : goal.invariant-loop-at
invariant-loop-at l =
    (l.entries ++ placed_entries l.start (values_view (drop l.at l.values)) ≡ placed_entries l.offset (values_view l.values))
    × (list_all (λ v. is_short v.1.bytes) (values_view (drop l.at l.values)) ≡ true)
    × (values_end l.start (values_view (drop l.at l.values)) ≡ values_end l.offset (values_view l.values))
