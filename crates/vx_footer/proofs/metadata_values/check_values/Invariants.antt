use Rattle.std.proofs.Common.{◌≡◌, map, drop}
use Rattle.vx_footer.specs.Serializing.{values_view, lengths_checks}
use Rattle.vx_footer.proofs.metadata_values.check_values.Given as goal

-- the keys still to come
abbrev pub invariant-loop-at : goal.invariant-loop-at
invariant-loop-at l = lengths_checks l.version (map (λ v. v.0) (values_view (drop l.at l.values))) ≡ lengths_checks l.version (map (λ v. v.0) (values_view l.values))
