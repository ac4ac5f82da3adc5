use Rattle.std.proofs.Common.{◌≡◌, ◌+◌, length, take}
use Rattle.std.specs.Prelude.{◌&&◌, nat_lt, if◌then◌else◌}
use Rattle.std.specs.Option.{option_map}
use Rattle.vx_data.specs.Paths.{Path}
use Rattle.vx_footer.specs.FieldSizes.{is_prefix, size_at}
use Rattle.vx_footer.proofs.sizes.add_along.Given as goal

abbrev pub decreases-loop-prefix : goal.decreases-loop-prefix
decreases-loop-prefix l = length l.prefix

-- the bytes stand at the paths longer than this one
abbrev pub invariant-loop-prefix : goal.invariant-loop-prefix
invariant-loop-prefix l = record {
  front : l.prefix ≡ take (length l.prefix) l.fn.path;
  value : (q : Path) → size_at l.sizes.entries q
      ≡ option_map (λ size. size + (if is_prefix q l.fn.path && nat_lt (length l.prefix) (length q) then l.bytes else 0)) (size_at l.fn.sizes.entries q);
}
