use Rattle.std.proofs.Common.{◌≡◌, ℕ, true, subst, List, take, get_or}
use Rattle.std.proofs.lemmas.List.{take_more}
use Rattle.vx_sched.specs.Places.{has_place}
use Rattle.vx_sched.proofs.TreeLemmas.{inserted-kept, inserted-front}
use Rattle.vx_sched.proofs.places.insert_all.Goals as goal

pub loop-place-preserved : goal.loop-place-preserved
loop-place-preserved c =
    let places = c.args.places.now in
    let at = c.loop-place.place-index in
    let key = get_or places at (0, 0) in
    let old = c.loop-place.later.keys in
    let new = c.insert.new.self.keys in
    let one_more = c.in_ok-insert.ensures.updates.0 in
    record {
      kept = λ k h. inserted-kept key old new one_more k (c.loop-place.invariant.kept k h);
      front = λ k h. inserted-front key old new one_more (take at places) c.loop-place.invariant.front k
          (subst (λ (xs : List (ℕ × ℕ)). has_place xs k ≡ true) (take_more places at (0, 0) c.loop-place-test.true) h);
    }
