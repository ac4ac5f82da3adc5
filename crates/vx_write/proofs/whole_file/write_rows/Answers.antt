use Rattle.std.proofs.Common.{◌≡◌, ◌∙◌, ◌++◌, [], List, Option, Ok, Err, refl, inl}
use Rattle.vx_data.specs.Dtype.{dtype_view}
use Rattle.vx_base.proofs.TakingLemmas.{nothing-took}
use Rattle.vx_write.specs.Chunks.{columns_seen}
use Rattle.vx_write.proofs.ReadBackPushed.{ended_opens}
use Rattle.vx_write.proofs.RowsLemmas.{all-front, begin_refused, begun_answer, pushing_end, pushing_leaves}
use Rattle.vx_write.proofs.whole_file.write_rows.Goals as goal

pub returns-in-Err-clause-answer : goal.returns-in-Err-clause-answer
returns-in-Err-clause-answer g c = begin_refused c.args.options (dtype_view c.args.dtype) (columns_seen c.args.chunks.now) c.in-Err.error c.in-Err.ensures.checked

pub returns-in-Err-clause-leaves : goal.returns-in-Err-clause-leaves
returns-in-Err-clause-leaves g c = record {
  front = [];
  rest = columns_seen c.args.chunks.now;
  split = refl;
  took = inl (record { count = 0; took = nothing-took (g.S.Sink.state c.args.out.now).gained });
}

pub returns-in-Err-push_all-clause-answer : goal.returns-in-Err-push_all-clause-answer
returns-in-Err-push_all-clause-answer g c =
    let start = (g.S.Sink.state c.args.out.now).gained in
    let o = c.args.options in
    let d = dtype_view c.args.dtype in
    let x = c.in-Err-push_all.ensures.err o d start (c.in-Ok.ensures.stands start) in
    begun_answer o d (columns_seen c.args.chunks.now) (Err c.in-Err-push_all.error) c.in-Ok.ensures.checked x.answer

pub returns-in-Err-push_all-clause-leaves : goal.returns-in-Err-push_all-clause-leaves
returns-in-Err-push_all-clause-leaves g c =
    let start = (g.S.Sink.state c.args.out.now).gained in
    let x = c.in-Err-push_all.ensures.err c.args.options (dtype_view c.args.dtype) start (c.in-Ok.ensures.stands start) in
    record { front = x.front; rest = x.rest; split = x.split; took = inl x.took }

pub returns-in-Ok-finish-clause-answer : goal.returns-in-Ok-finish-clause-answer
returns-in-Ok-finish-clause-answer g c =
    let state = g.S.Sink.state in
    let start = (state c.args.out.now).gained in
    let o = c.args.options in
    let d = dtype_view c.args.dtype in
    let all = columns_seen c.args.chunks.now in
    let p = c.in-Ok-push_all.ensures.ok o d start (c.in-Ok.ensures.stands start) in
    let f = c.in-Ok-finish.ensures.finished o d _ start p.stands in
    begun_answer o d all (Ok c.in-Ok-finish.summary) c.in-Ok.ensures.checked (pushing_end o d all start (state c.push_all.new.out).gained (state c.finish.new.out) c.push_all.new.writer (Ok c.in-Ok-finish.summary) p f)

pub returns-in-Ok-finish-clause-leaves : goal.returns-in-Ok-finish-clause-leaves
returns-in-Ok-finish-clause-leaves g c =
    let state = g.S.Sink.state in
    let start = (state c.args.out.now).gained in
    let o = c.args.options in
    let d = dtype_view c.args.dtype in
    let p = c.in-Ok-push_all.ensures.ok o d start (c.in-Ok.ensures.stands start) in
    let f = c.in-Ok-finish.ensures.finished o d _ start p.stands in
    pushing_leaves o d (columns_seen c.args.chunks.now) (state c.args.out.now) (state c.finish.new.out) (state c.push_all.new.out).gained c.push_all.new.writer (Ok c.in-Ok-finish.summary) p f

pub returns-in-Ok-finish-clause-opens : goal.returns-in-Ok-finish-clause-opens
returns-in-Ok-finish-clause-opens g c =
    let state = g.S.Sink.state in
    let start = (state c.args.out.now).gained in
    let o = c.args.options in
    let d = dtype_view c.args.dtype in
    let all = columns_seen c.args.chunks.now in
    let p = c.in-Ok-push_all.ensures.ok o d start (c.in-Ok.ensures.stands start) in
    let f = c.in-Ok-finish.ensures.finished o d _ start p.stands in
    let whole = all-front o d all start (state c.push_all.new.out).gained c.push_all.new.writer p in
    ended_opens o d p.front all start (state c.finish.new.out) c.in-Ok-finish.summary c.are_told.ensures c.has_texts.ensures whole p.accepted f

pub returns-in-Err-finish-clause-answer : goal.returns-in-Err-finish-clause-answer
returns-in-Err-finish-clause-answer g c =
    let state = g.S.Sink.state in
    let start = (state c.args.out.now).gained in
    let o = c.args.options in
    let d = dtype_view c.args.dtype in
    let all = columns_seen c.args.chunks.now in
    let p = c.in-Ok-push_all.ensures.ok o d start (c.in-Ok.ensures.stands start) in
    let f = c.in-Err-finish.ensures.finished o d _ start p.stands in
    begun_answer o d all (Err c.in-Err-finish.error) c.in-Ok.ensures.checked (pushing_end o d all start (state c.push_all.new.out).gained (state c.finish.new.out) c.push_all.new.writer (Err c.in-Err-finish.error) p f)

pub returns-in-Err-finish-clause-leaves : goal.returns-in-Err-finish-clause-leaves
returns-in-Err-finish-clause-leaves g c =
    let state = g.S.Sink.state in
    let start = (state c.args.out.now).gained in
    let o = c.args.options in
    let d = dtype_view c.args.dtype in
    let p = c.in-Ok-push_all.ensures.ok o d start (c.in-Ok.ensures.stands start) in
    let f = c.in-Err-finish.ensures.finished o d _ start p.stands in
    pushing_leaves o d (columns_seen c.args.chunks.now) (state c.args.out.now) (state c.finish.new.out) (state c.push_all.new.out).gained c.push_all.new.writer (Err c.in-Err-finish.error) p f
