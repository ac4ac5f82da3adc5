use Rattle.std.proofs.Common.{List, Option, ◌++◌, subst}
use Rattle.vx_rows.specs.Rows.{Rows}
use Rattle.vx_write.specs.Chunks.{parts_seen}
use Rattle.vx_write.specs.Leaves.{chunks_at}
use Rattle.vx_write.specs.Sending.{Going}
use Rattle.vx_write.proofs.SendingLemmas.{made_first}
use Rattle.vx_write.proofs.sending.write_leaf.Goals as goal

pub returns-in-Err-clause-going : goal.returns-in-Err-clause-going
returns-in-Err-clause-going g c p all rest start going =
    let w = c.args.chunks.now in
    c.in-Err.ensures.going p all (chunks_at w.leaf (parts_seen w.chunks.others) ++ rest) start
    (made_first c.args.coding.now p c.args.output.now all w rest start (g.S.Sink.state c.args.out.now).gained going)

pub returns-in-None-clause-going : goal.returns-in-None-clause-going
returns-in-None-clause-going g c p all rest start going =
    let state = g.S.Sink.state in
    let w = c.args.chunks.now in
    let then = c.in-Ok.ensures.going p all (chunks_at w.leaf (parts_seen w.chunks.others) ++ rest) start
    (made_first c.args.coding.now p c.args.output.now all w rest start (state c.args.out.now).gained going) in
    subst (λ (o : Option (List Rows)). Going c.args.coding.now p all (chunks_at w.leaf (parts_seen o) ++ rest) start c.write_made.new.output (state c.write_made.new.out).gained) c.in-None.is then

pub returns-in-Ok-write_cut-clause-going : goal.returns-in-Ok-write_cut-clause-going
returns-in-Ok-write_cut-clause-going g c p all rest start going =
    let state = g.S.Sink.state in
    let w = c.args.chunks.now in
    let then = c.in-Ok.ensures.going p all (chunks_at w.leaf (parts_seen w.chunks.others) ++ rest) start
    (made_first c.args.coding.now p c.args.output.now all w rest start (state c.args.out.now).gained going) in
    c.in-Ok-write_cut.ensures.going p all rest start
    (subst (λ (o : Option (List Rows)). Going c.args.coding.now p all (chunks_at w.leaf (parts_seen o) ++ rest) start c.write_made.new.output (state c.write_made.new.out).gained) c.in-Some.is then)

pub returns-in-Err-write_cut-clause-going : goal.returns-in-Err-write_cut-clause-going
returns-in-Err-write_cut-clause-going g c p all rest start going =
    let state = g.S.Sink.state in
    let w = c.args.chunks.now in
    let then = c.in-Ok.ensures.going p all (chunks_at w.leaf (parts_seen w.chunks.others) ++ rest) start
    (made_first c.args.coding.now p c.args.output.now all w rest start (state c.args.out.now).gained going) in
    c.in-Err-write_cut.ensures.going p all rest start
    (subst (λ (o : Option (List Rows)). Going c.args.coding.now p all (chunks_at w.leaf (parts_seen o) ++ rest) start c.write_made.new.output (state c.write_made.new.out).gained) c.in-Some.is then)
