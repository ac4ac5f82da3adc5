use Rattle.std.proofs.Common.{◌≡◌, map, drop}
use Rattle.vx_footer.specs.Serializing.{lengths_checks}
use Rattle.vx_footer.proofs.metadata_values.check_entries.Given as goal

-- the keys still to come
abbrev pub invariant-loop-at : goal.invariant-loop-at
invariant-loop-at l = lengths_checks l.version (map (λ m. m.key) (drop l.at l.entries)) ≡ lengths_checks l.version (map (λ m. m.key) l.entries)
