use Rattle.std.proofs.Common.{List, ℕ, sym, subst}
use Rattle.std.specs.Prelude.{OnOk}
use Rattle.vx_source.specs.Bytes.{IsEnd}
use Rattle.vx_source.specs.Kept.{tail_start, LiesIn}
use Rattle.vx_source.specs.Puts.{Gains}
use Rattle.vx_source.proofs.PutLemmas.{gains-none}
use Rattle.vx_file.specs.Covered.{covered_from}
use Rattle.vx_file.proofs.prepared.put_tail.Goals as goal

pub put_covered-requires : goal.put_covered-requires
put_covered-requires g c = λ n s e. subst (λ t. LiesIn t s) c.in-Some.is (c.requires.lies n s e)

pub returns-in-Some-clause-gains : goal.returns-in-Some-clause-gains
returns-in-Some-clause-gains g c =
    let state = g.C.SegmentCache.state in
    subst (λ t. OnOk c.put_covered.result ((file : List ℕ) → IsEnd file t → Gains (covered_from file (tail_start t) c.args.segments.now) (state c.args.cache.now) (state c.put_covered.new.cache))) (sym c.in-Some.is) c.put_covered.ensures.gains

pub returns-in-None-clause-gains : goal.returns-in-None-clause-gains
returns-in-None-clause-gains g c = λ file end.
    let s = g.C.SegmentCache.state c.args.cache.now in
    subst (λ t. Gains (covered_from file (tail_start t) c.args.segments.now) s s) (sym c.in-None.is) (gains-none s)
