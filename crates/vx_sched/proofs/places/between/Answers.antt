use Rattle.std.proofs.Common.{◌≡◌, ℕ, true, sym, subst, List, arith}
use Rattle.std.specs.BTreeMap.Range.{range_contains}
use Rattle.std.specs.declared.ops.Bound.TheVariants.{Included, Excluded, Unbounded}
use Rattle.vx_sched.specs.Places.{place_cmp, has_place}
use Rattle.vx_sched.proofs.PlaceLemmas.{kept-place}
use Rattle.vx_sched.proofs.TreeLemmas.{in-range, in-rest}
use Rattle.vx_sched.proofs.places.between.Goals as goal

pub returns-in-Some : goal.returns-in-Some
returns-in-Some c = λ offset id l u there.
    let end = c.in-Some.end in
    let below = c.in-Some.ensures in
    subst (λ (xs : List (ℕ × ℕ)). has_place xs (offset, id) ≡ true) (sym (c.range.ensures.between tt))
    (kept-place (range_contains place_cmp (Included (c.args.left, 0)) (Excluded (end, 0))) c.args.later.now.keys offset id (in-range c.args.left offset id end l (omega (arith, u, below))) there)

pub returns-in-None : goal.returns-in-None
returns-in-None c = λ offset id l u there.
    subst (λ (xs : List (ℕ × ℕ)). has_place xs (offset, id) ≡ true) (sym (c.range-in-None.ensures.between tt))
    (kept-place (range_contains place_cmp (Included (c.args.left, 0)) Unbounded) c.args.later.now.keys offset id (in-rest c.args.left offset id l) there)
