use Rattle.std.proofs.Common.{◌++◌, Option, subst}
use Rattle.vx_rows.specs.Rows.{column_view}
use Rattle.vx_rows.specs.declared.column.Column.{Column}
use Rattle.vx_write.specs.Chunks.{last_seen}
use Rattle.vx_write.specs.Leaves.{chunk_at, chunks_at}
use Rattle.vx_write.specs.Sending.{Going}
use Rattle.vx_write.proofs.PlacedLemmas.{going_step, going_failed, going_checks}
use Rattle.vx_write.proofs.sending.write_made.Goals as goal

pub returns-in-None-clause-going : goal.returns-in-None-clause-going
returns-in-None-clause-going g c p all rest start going =
    let h = (g.S.Sink.state c.args.out.now).gained in
    subst (λ (m : Option Column). Going c.args.coding.now p all (chunks_at c.args.leaf (last_seen m) ++ rest) start c.args.output.now h) c.in-None.is going

pub returns-in-Ok-clause-going : goal.returns-in-Ok-clause-going
returns-in-Ok-clause-going g c p all rest start going =
    let h = (g.S.Sink.state c.args.out.now).gained in
    let here = subst (λ (m : Option Column). Going c.args.coding.now p all (chunks_at c.args.leaf (last_seen m) ++ rest) start c.args.output.now h) c.in-Some.is going in
    going_step c.args.coding.now p c.args.output.now c.write_chunk.new.output all rest (chunk_at c.args.leaf (column_view c.in-Some.rows)) start h
    (g.S.Sink.state c.write_chunk.new.out).gained here c.in-Ok.ensures.ok c.in-Ok.ensures.checked

pub returns-in-Err-clause-going : goal.returns-in-Err-clause-going
returns-in-Err-clause-going g c p all rest start going =
    let h = (g.S.Sink.state c.args.out.now).gained in
    let row = chunk_at c.args.leaf (column_view c.in-Some.rows) in
    let here = subst (λ (m : Option Column). Going c.args.coding.now p all (chunks_at c.args.leaf (last_seen m) ++ rest) start c.args.output.now h) c.in-Some.is going in (
      going_failed c.args.coding.now p c.args.output.now c.write_chunk.new.output all rest row start h (g.S.Sink.state c.write_chunk.new.out).gained here c.in-Err.ensures.err,
      going_checks (Unit {0}) (Unit {0}) c.args.coding.now p c.args.output.now all rest row start h c.in-Err.error here c.in-Err.ensures.checked,
    )
