use Rattle.std.proofs.Common.{◌<◌, ◌≤◌, ◌∙◌, length, sym, rules, arith}
use Rattle.vx_write.specs.Chunks.{chunks_view, chunks_seen}
use Rattle.vx_write.proofs.LeavesLemmas.{ahead_set, now_set, as_many, typed_at, sound_at, filled_more, filled_end, chunks_sound, grown_more, grown_end}
use Rattle.vx_write.proofs.held_leaves.feed_each.Goals as goal

pub bounds-columns-at : goal.bounds-columns-at
bounds-columns-at c =
    let many = as_many c.args.leaves.now.items c.args.columns.now c.requires.typed in
    let below : c.loop-at.at < length c.args.leaves.now.items = search rules in
    omega (arith, many, below)

pub feed-requires-clause-typed : goal.feed-requires-clause-typed
feed-requires-clause-typed c =
    let many = as_many c.args.leaves.now.items c.args.columns.now c.requires.typed in
    let below : c.loop-at.at < length c.args.leaves.now.items = search rules in
    let inside : c.loop-at.at < length c.args.columns.now = omega (arith, many, below) in
    let is = c.index_mut-leaf.ensures.value ∙ c.loop-at.invariant.others.same c.loop-at.at c.index_mut-leaf.result.now (omega arith) in
    typed_at c.args.leaves.now.items c.args.columns.now c.loop-at.at c.index_mut-leaf.result.now c.index-columns-at.result c.requires.typed below is inside c.index-columns-at.is

pub feed-requires-clause-even : goal.feed-requires-clause-even
feed-requires-clause-even c =
    let many = as_many c.args.leaves.now.items c.args.columns.now c.requires.typed in
    let below : c.loop-at.at < length c.args.leaves.now.items = search rules in
    let inside : c.loop-at.at < length c.args.columns.now = omega (arith, many, below) in
    sound_at c.args.columns.now c.loop-at.at c.index-columns-at.result c.requires.sound inside c.index-columns-at.is

pub returns-in_err-full-clause-still : goal.returns-in_err-full-clause-still
returns-in_err-full-clause-still c =
    now_set c.loop-at.leaves.items c.loop-at.at c.index_mut-leaf.result.now c.feed.new.self c.index_mut-leaf.ensures.value c.in_err-full.ensures.still ∙ c.loop-at.invariant.same

pub returns-in_err-push_chunks-clause-still : goal.returns-in_err-push_chunks-clause-still
returns-in_err-push_chunks-clause-still c =
    now_set c.loop-at.leaves.items c.loop-at.at c.index_mut-leaf.result.now c.feed.new.self c.index_mut-leaf.ensures.value c.in_ok-full.ensures.still ∙ c.loop-at.invariant.same

pub loop-at-preserved : goal.loop-at-preserved
loop-at-preserved c =
    let many = as_many c.args.leaves.now.items c.args.columns.now c.requires.typed in
    let long = c.loop-at.invariant.others.long in
    let below : c.loop-at.at < length c.args.leaves.now.items = search rules in
    let inside : c.loop-at.at < length c.args.columns.now = omega (arith, many, below) in
    let here : c.loop-at.at < length c.loop-at.leaves.items = omega (arith, long, below) in
    let is = c.index_mut-leaf.ensures.value ∙ c.loop-at.invariant.others.same c.loop-at.at c.index_mut-leaf.result.now (omega arith) in record {
      others = ahead_set c.loop-at.at c.loop-at.leaves.items c.args.leaves.now.items c.feed.new.self c.loop-at.invariant.others;
      same = now_set c.loop-at.leaves.items c.loop-at.at c.index_mut-leaf.result.now c.feed.new.self c.index_mut-leaf.ensures.value c.in_ok-full.ensures.still ∙ c.loop-at.invariant.same;
      full = filled_more c.args.leaves.now.items c.args.columns.now c.loop-at.at c.index_mut-leaf.result.now c.index-columns-at.result (chunks_view c.loop-at.chunks.items) (chunks_view c.push_chunks.new.all.items)
          (chunks_seen c.in_ok-full.full) below is inside c.index-columns-at.is c.in_ok-full.ensures.chunks c.in_ok-push_chunks.ensures
          ∙ c.loop-at.invariant.full;
      sound = chunks_sound c.args.leaves.now.items c.loop-at.at c.index_mut-leaf.result.now (chunks_view c.loop-at.chunks.items) (chunks_view c.push_chunks.new.all.items) (chunks_seen c.in_ok-full.full)
          below is c.loop-at.invariant.sound c.in_ok-full.ensures.sound c.in_ok-push_chunks.ensures;
      next = grown_more c.loop-at.leaves.items c.args.leaves.now.items c.args.columns.now c.loop-at.at c.index_mut-leaf.result.now c.feed.new.self c.index-columns-at.result here below is inside c.index-columns-at.is
          c.in_ok-full.ensures.next
          ∙ c.loop-at.invariant.next;
    }

pub returns-clause-chunks : goal.returns-clause-chunks
returns-clause-chunks c =
    let past : length c.args.leaves.now.items ≤ c.loop-at.at = search rules in
    sym (filled_end c.args.leaves.now.items c.args.columns.now c.loop-at.at (chunks_view c.loop-at.chunks.items) past) ∙ c.loop-at.invariant.full

pub returns-clause-next : goal.returns-clause-next
returns-clause-next c =
    let long = c.loop-at.invariant.others.long in
    let past : length c.args.leaves.now.items ≤ c.loop-at.at = search rules in
    sym (grown_end c.loop-at.leaves.items c.args.leaves.now.items c.args.columns.now c.loop-at.at (omega (arith, long, past)) past) ∙ c.loop-at.invariant.next
