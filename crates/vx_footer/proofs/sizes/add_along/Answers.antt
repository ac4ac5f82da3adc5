use Rattle.std.proofs.Common.{◌≡◌, ◌+◌, ◌<◌, length, take, sym, subst, arith}
use Rattle.std.specs.Option.{option_map}
use Rattle.std.proofs.lemmas.Bool.Decides.{nat_tests}
use Rattle.vx_data.specs.Paths.{Path}
use Rattle.vx_footer.specs.FieldSizes.{size_at}
use Rattle.vx_footer.proofs.PathLemmas.{above, start_front, start_along, next_front, next_along}
use Rattle.vx_footer.proofs.sizes.add_along.Goals as goal

pub loop-prefix-init : goal.loop-prefix-init
loop-prefix-init c = record { front = start_front c.args.path; value = λ q. start_along c.args.path q c.args.bytes _ }

pub loop-prefix-preserved : goal.loop-prefix-preserved
loop-prefix-preserved c =
    let some : 0 < length c.loop-prefix.prefix = grind (arith, nat_tests, c.if-not-pop.false, c.pop.ensures.value) in
    record {
      front = subst (λ (p : Path). p ≡ take (length p) c.args.path) (sym c.pop.ensures.rest) (next_front c.args.path c.loop-prefix.prefix c.loop-prefix.invariant.front);
      value = λ q. subst (λ (p : Path). size_at c.add_at.new.sizes.entries q
          ≡ option_map (λ size. size + above c.args.path (length p) q c.args.bytes) (size_at c.args.sizes.now.entries q)) (sym c.pop.ensures.rest)
          (next_along c.args.path c.loop-prefix.prefix q c.args.bytes (size_at c.args.sizes.now.entries q) (size_at c.loop-prefix.sizes.entries q) (size_at c.add_at.new.sizes.entries q)
          c.loop-prefix.invariant.front some (c.loop-prefix.invariant.value q) (c.add_at.ensures q));
    }
