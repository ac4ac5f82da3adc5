use Rattle.std.proofs.Common.{◌≡◌, drop}
use Rattle.std.specs.List.{list_all}
use Rattle.vx_footer.specs.Serializing.{values_view, is_short}
use Rattle.vx_footer.proofs.metadata_values.are_short.Given as goal

-- the values still to come
abbrev pub invariant-loop-at : goal.invariant-loop-at
invariant-loop-at l = list_all (λ v. is_short v.1.bytes) (values_view (drop l.at l.values)) ≡ list_all (λ v. is_short v.1.bytes) (values_view l.values)
