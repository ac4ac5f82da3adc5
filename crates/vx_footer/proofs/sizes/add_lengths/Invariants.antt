use Rattle.std.proofs.Common.{◌≡◌, ◌≤◌, ◌+◌, ◌-◌, ◌*◌, length, drop}
use Rattle.std.specs.Prelude.{IfSome}
use Rattle.std.specs.Option.{option_map}
use Rattle.vx_data.specs.Paths.{Path}
use Rattle.vx_footer.specs.FieldSizes.{size_at}
use Rattle.vx_footer.specs.CommonPaths.{length_within}
use Rattle.vx_footer.proofs.sizes.add_lengths.Given as goal

abbrev pub decreases-loop-id : goal.decreases-loop-id
decreases-loop-id l = length l.segments - l.id

-- the segments so far and those still to come
abbrev pub invariant-loop-id : goal.invariant-loop-id
invariant-loop-id l = record {
  inside : l.id ≤ length l.segments;
  value : (q : Path) → option_map (λ size. size + length_within q (drop l.id l.gathered.commons) (drop l.id l.segments)) (size_at l.sizes.entries q)
      ≡ option_map (λ size. size + length_within q l.gathered.commons l.segments) (size_at l.fn.sizes.entries q);
  low : (q : Path) → IfSome (size_at l.sizes.entries q) (λ size. size ≤ l.id * 4294967295);
}
