use Rattle.std.proofs.Common.{◌≡◌, ap, Err, inl}
use Rattle.std.specs.Prelude.{map, string_bytes}
use Rattle.vx_base.specs.Openers.{same_opener, same_opener-then}
use Rattle.vx_rows.specs.Rows.{column_view}
use Rattle.vx_file.specs.Scans.{seen}
use Rattle.vx_file.proofs.MultiLemmas.{reads_begin, reads_next, stops_among, asks_some}
use Rattle.vx_file.proofs.multi_file.read_all.Goals as goal

pub loop-at-init : goal.loop-at-init
loop-at-init g c = (reads_begin _ _ _ _ _, same_opener _)

pub loop-at-preserved : goal.loop-at-preserved
loop-at-preserved g c =
    let state = g.F.Opener.state in (
      reads_next _ _ (map string_bytes c.args.names.now) c.loop-at.at c.name_at.result.now (state c.args.files.now) (state c.loop-at.files) (state c.read_named.new.files)
          (seen c.args.columns.now.items) (seen c.loop-at.columns.items) (seen c.add.new.columns.items) (column_view c.in-Ok.column) c.name_at.ensures c.loop-at.invariant.0
          c.in-Ok.ensures.reads c.in-Ok.ensures.asked c.in_ok-add.ensures,
      same_opener-then _ _ _ c.loop-at.invariant.1 c.in-Ok.ensures.same,
    )

pub returns-in-Err-clause-stops : goal.returns-in-Err-clause-stops
returns-in-Err-clause-stops g c = λ e is.
    let state = g.F.Opener.state in
    let same : c.in-Err.error ≡ e = cc in
    stops_among _ _ (map string_bytes c.args.names.now) c.loop-at.at c.name_at.result.now (state c.args.files.now) (state c.loop-at.files) (state c.read_named.new.files)
    (seen c.args.columns.now.items) (seen c.loop-at.columns.items) e c.name_at.ensures c.loop-at.invariant.0 (c.in-Err.ensures.stops e (ap Err same))

pub returns-in-Err-clause-asked : goal.returns-in-Err-clause-asked
returns-in-Err-clause-asked g c =
    let state = g.F.Opener.state in
    asks_some (map string_bytes c.args.names.now) c.loop-at.at c.name_at.result.now (state c.args.files.now) (state c.loop-at.files) (state c.read_named.new.files)
    c.name_at.ensures c.loop-at.invariant.0.asked c.in-Err.ensures.stopped

pub returns-in_err-add-clause-asked : goal.returns-in_err-add-clause-asked
returns-in_err-add-clause-asked g c =
    let state = g.F.Opener.state in
    asks_some (map string_bytes c.args.names.now) c.loop-at.at c.name_at.result.now (state c.args.files.now) (state c.loop-at.files) (state c.read_named.new.files)
    c.name_at.ensures c.loop-at.invariant.0.asked (inl c.in-Ok.ensures.asked)
