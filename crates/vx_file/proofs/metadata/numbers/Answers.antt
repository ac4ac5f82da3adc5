use Rattle.std.proofs.Common.{◌<◌, arith, rules, ◌++◌, subst, sym, List, ◌≡◌, ◌∷◌, [], ◌-◌, ◌+◌}
use Rattle.vx_base.specs.declared.segment.SegmentId.{SegmentId}
use Rattle.vx_file.specs.Loading.{numbers_from}
use Rattle.vx_file.proofs.Loadings.{number-more}
use Rattle.vx_file.proofs.metadata.numbers.Goals as goal

pub loop-number-preserved : goal.loop-number-preserved
loop-number-preserved c =
    let i = c.loop-number.invariant in
    let inside : c.loop-number.number < c.args.end = search rules in
    let added : c.push.new.self.items ≡ c.loop-number.ids.items ++ record { 0 = c.loop-number.number } ∷ [] = search rules in
    record {
      all = subst (λ (l : List SegmentId). l ++ numbers_from (c.loop-number.number + 1) (c.args.end - (c.loop-number.number + 1)) ≡ numbers_from c.args.first (c.args.end - c.args.first)) (sym added)
          (number-more c.loop-number.ids.items _ c.loop-number.number c.args.end inside i.all);
      inside = omega (arith, inside);
    }
