use Rattle.std.proofs.Common.{length, ap, ◌∙◌, arith}
use Rattle.vx_source.specs.Blocks.{filed_good}
use Rattle.vx_source.proofs.FilingLemmas.{got, map-more}
use Rattle.vx_source.proofs.filing.file_cuts.Goals as goal

pub loop-index-preserved : goal.loop-index-preserved
loop-index-preserved c =
    let core = c.args.span.now in
    let r = c.index-requests-index.result in
    let found = got core.reads c.loop-index.index r (let l = c.loop-index-test.true in let same = ap length c.requests-index-end.ensures.value in omega (arith, l, same)) (rw c.requests.ensures.value at c.index-requests-index.is) in
    rw (c.in_ok-push.ensures.items, c.good.ensures, c.in_ok-bytes.ensures r found, ← c.index-requests-index.is) (map-more (filed_good core c.args.buffer.now) c.loop-index.filed.items core.reads c.loop-index.index r found ∙ c.loop-index.invariant)
