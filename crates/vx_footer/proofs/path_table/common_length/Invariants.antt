use Rattle.std.proofs.Common.{◌≡◌, ◌+◌, map, min, length, drop}
use Rattle.std.specs.Prelude.{string_bytes}
use Rattle.vx_footer.specs.CommonPaths.{common_length}
use Rattle.vx_footer.proofs.path_table.common_length.Given as goal

-- the names so far and those still to come
abbrev pub invariant-loop-at : goal.invariant-loop-at
invariant-loop-at l = record {
  value : l.at + common_length (map string_bytes (drop l.at l.left)) (map string_bytes (drop l.at l.right)) ≡ common_length (map string_bytes l.left) (map string_bytes l.right);
  end : l.most ≡ min (length l.left) (length l.right);
}
