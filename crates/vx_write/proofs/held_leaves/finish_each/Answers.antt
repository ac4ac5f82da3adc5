use Rattle.std.proofs.Common.{◌<◌, ◌≤◌, ◌∙◌, length, sym, subst, rules, arith}
use Rattle.vx_write.specs.Leaves.{LeafState, leaf_type, AllOfType}
use Rattle.vx_write.specs.Chunks.{chunks_view, last_seen}
use Rattle.vx_write.proofs.LeavesLemmas.{ahead_set, rests_more, rests_end, chunks_sound}
use Rattle.vx_write.proofs.held_leaves.finish_each.Goals as goal

pub loop-at-preserved : goal.loop-at-preserved
loop-at-preserved c =
    let long = c.loop-at.invariant.others.long in
    let below : c.loop-at.at < length c.args.leaves.now.items = search rules in
    let is = c.index_mut-leaf.ensures.value ∙ c.loop-at.invariant.others.same c.loop-at.at c.index_mut-leaf.result.now (omega arith) in
    let typed = subst (λ (s : LeafState). AllOfType (leaf_type s.now) (last_seen c.in_ok-last.last)) c.in_ok-taken.ensures c.in_ok-last.ensures.sound in record {
      others = ahead_set c.loop-at.at c.loop-at.leaves.items c.args.leaves.now.items c.take.new.leaf c.loop-at.invariant.others;
      last = rests_more c.args.leaves.now.items c.loop-at.at c.index_mut-leaf.result.now c.in_ok-taken.taken (chunks_view c.loop-at.chunks.items) (chunks_view c.push_last.new.chunks.items)
          (last_seen c.in_ok-last.last) below is c.in_ok-taken.ensures c.in_ok-last.ensures.chunk c.in_ok-push_last.ensures
          ∙ c.loop-at.invariant.last;
      sound = chunks_sound c.args.leaves.now.items c.loop-at.at c.index_mut-leaf.result.now (chunks_view c.loop-at.chunks.items) (chunks_view c.push_last.new.chunks.items) (last_seen c.in_ok-last.last)
          below is c.loop-at.invariant.sound typed c.in_ok-push_last.ensures;
    }

pub returns-clause-chunks : goal.returns-clause-chunks
returns-clause-chunks c =
    let past : length c.args.leaves.now.items ≤ c.loop-at.at = search rules in
    sym (rests_end c.args.leaves.now.items c.loop-at.at (chunks_view c.loop-at.chunks.items) past) ∙ c.loop-at.invariant.last
