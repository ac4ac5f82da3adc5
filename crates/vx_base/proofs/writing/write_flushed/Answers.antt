use Rattle.std.proofs.Common.{subst, []}
use Rattle.std.proofs.lemmas.List.{append-nil}
use Rattle.vx_base.specs.Streams.{WritesAll}
use Rattle.vx_base.proofs.TakingLemmas.{written-then}
use Rattle.vx_base.proofs.writing.write_flushed.Goals as goal

pub returns-clause-written : goal.returns-clause-written
returns-clause-written g c =
    let state = g.S.Sink.state in
    let all = c.in_ok-write_all.ensures in
    subst (λ bytes. WritesAll bytes (state c.args.sink.now) (state c.flush.new.sink) c.flush.result) (append-nil c.args.bytes.now)
    (written-then c.args.bytes.now [] (state c.args.sink.now) (state c.write_all.new.sink) (state c.flush.new.sink) c.flush.result all.written.took all.same (λ sound. (all.written.refused.sound sound).1) c.flush.ensures.written)
