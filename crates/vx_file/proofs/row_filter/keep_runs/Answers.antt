use Rattle.std.proofs.Common.{◌≤◌, length, rules, sym, ap, subst, ◌∙◌}
use Rattle.vx_data.specs.Dtype.{dtype_view}
use Rattle.vx_rows.specs.Rows.{Rows, IsColumn, column_view, rows_len, dtype_of}
use Rattle.vx_rows.proofs.ColumnLaws.{column_rows}
use Rattle.vx_file.proofs.KeepingLemmas.{keeps_none, keeps_more, keeps_all}
use Rattle.vx_file.proofs.row_filter.keep_runs.Goals as goal

pub loop-at-init : goal.loop-at-init
loop-at-init c = record {
  kept = keeps_none c.args.mask.now (column_view c.args.column.now) (dtype_view c.in_ok-dtype.dtype) c.in_ok-growing.growing c.in_ok-dtype.ensures c.in_ok-growing.ensures.value;
  typed = sym (c.in_ok-growing.ensures.typed ∙ c.in_ok-dtype.ensures);
}

pub loop-at-preserved : goal.loop-at-preserved
loop-at-preserved c =
    let i = c.loop-at.invariant in
    let here = column_view c.args.column.now in
    record {
      kept = keeps_more c.args.mask.now here c.loop-at.at c.next_kept-from.result c.run_end-to.result c.loop-at.growing c.append.new.self c.requires.long
          (column_rows (rows_len here) here c.requires.even) i.kept c.next_kept-from.ensures.behind c.run_end-to.ensures.behind c.run_end-to.ensures.inside
          c.next_kept-from.ensures.not_kept c.run_end-to.ensures.kept c.in_ok-append.ensures.ok;
      typed = i.typed ∙ sym c.in_ok-append.ensures.same;
    }

pub returns-clause-value : goal.returns-clause-value
returns-clause-value c =
    let past : length c.args.mask.now ≤ c.loop-at.at = search rules in
    c.in_ok-finish.ensures.value ∙ keeps_all c.args.mask.now (column_view c.args.column.now) c.loop-at.at c.loop-at.growing c.loop-at.invariant.kept past

pub returns-clause-typed : goal.returns-clause-typed
returns-clause-typed c = ap dtype_of c.in_ok-finish.ensures.value ∙ sym c.loop-at.invariant.typed

pub returns-clause-sound : goal.returns-clause-sound
returns-clause-sound c = subst (λ (x : Rows). IsColumn (rows_len x) x) (sym c.in_ok-finish.ensures.value) c.in_ok-finish.ensures.sound
