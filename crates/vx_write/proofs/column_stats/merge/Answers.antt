use Rattle.std.proofs.Common.{rules, arith, ◌≡◌, ◌++◌, ◌∷◌, [], ℕ, length, ◌∙◌, ap, sym, subst, ◌<◌, get_or}
use Rattle.std.specs.Prelude.{slice_set}
use Rattle.vx_write.specs.Gathered.{half_both, both, running}
use Rattle.vx_write.proofs.GatheredLemmas.{merge_begins, merge_turn}
use Rattle.vx_write.proofs.column_stats.merge.Goals as goal

pub loop-last-init : goal.loop-last-init
loop-last-init c w a b pairs stats more = merge_begins w a b c.args.stats.now.items c.args.more.items pairs stats more

pub merge_at-requires : goal.merge_at-requires
merge_at-requires c =
    let r = c.requires in
    let now = c.loop-last.invariant r.0 r.1 r.2 r.3 r.4 r.5 in
    let turn = merge_turn r.0 r.1 r.2 c.loop-last.stats.items c.loop-last.more.items c.pop.new.self.items c.in-Some.last r.3 now.0 now.1 c.in-Some.ensures.items in
    let at : c.len-at.result ≡ length c.pop.new.self.items = omega arith in
    let inside : c.len-at.result < length c.loop-last.stats.items = omega (arith, at, turn.inside) in
    let alone : get_or c.loop-last.stats.items c.len-at.result (running r.0 turn.old) ≡ running r.0 turn.old = ap (λ n. get_or c.loop-last.stats.items n (running r.0 turn.old)) at ∙ turn.alone in
    (r.0, turn.old, turn.new, turn.pair, inside, alone, turn.more)

pub loop-last-preserved : goal.loop-last-preserved
loop-last-preserved c w a b pairs stats more =
    let now = c.loop-last.invariant w a b pairs stats more in
    let turn = merge_turn w a b c.loop-last.stats.items c.loop-last.more.items c.pop.new.self.items c.in-Some.last pairs now.0 now.1 c.in-Some.ensures.items in
    let at : c.len-at.result ≡ length c.pop.new.self.items = omega arith in
    let alone : get_or c.loop-last.stats.items c.len-at.result (running w turn.old) ≡ running w turn.old = ap (λ n. get_or c.loop-last.stats.items n (running w turn.old)) at ∙ turn.alone in
    (c.merge_at.ensures w turn.old turn.new turn.pair alone turn.more ∙ ap (λ n. slice_set c.loop-last.stats.items n (running w (both turn.old turn.new))) at ∙ turn.after, turn.rest)
