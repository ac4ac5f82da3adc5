use Rattle.std.proofs.Common.{◌∙◌, ap, sym, subst, arith}
use Rattle.vx_rows.specs.Rows.{column_view, rows_len}
use Rattle.vx_write.specs.CutParts.{parts_from, AreOrdered}
use Rattle.vx_write.specs.Gathering.{EndsWithin}
use Rattle.vx_write.proofs.FeedLemmas.{cut_turn, cut_last}
use Rattle.vx_write.proofs.PartsLemmas.{last_end, ends_more, ordered_more}
use Rattle.vx_write.proofs.cutting.cut_column.Goals as goal

pub loop-ends-preserved : goal.loop-ends-preserved
loop-ends-preserved c =
    let further = subst (EndsWithin c.loop-ends.start (rows_len (column_view c.args.column.now))) c.in-Full.is c.in_ok-end.ensures.further in
    let begins = further.0 in
    let last = c.loop-ends.invariant.last in
    let more = c.in_ok-push-in-Full.ensures.items in record {
      inside = further.1;
      ordered = subst (AreOrdered 0) (sym more) (ordered_more 0 c.loop-ends.ends.items c.in-Full.end c.loop-ends.invariant.ordered (omega (arith, last, begins)));
      last = ap (last_end 0) more ∙ ends_more 0 c.loop-ends.ends.items c.in-Full.end;
      same = cut_turn c.args.rows c.args.target (column_view c.args.column.now) c.loop-ends.start c.in-Full.end c.loop-ends.ends.items c.push.new.self.items
          c.requires c.loop-ends.invariant.inside (sym c.in-Full.is ∙ c.in_ok-end.ensures.value) more last
          ∙ c.loop-ends.invariant.same;
    }

pub returns-in-Open-clause-value : goal.returns-in-Open-clause-value
returns-in-Open-clause-value c =
    cut_last c.args.rows c.args.target (column_view c.args.column.now) c.loop-ends.start c.in-Open.gathered (parts_from (column_view c.args.column.now) 0 c.loop-ends.ends.items) c.requires
    (sym c.in-Open.is ∙ c.in_ok-end.ensures.value)
    ∙ c.loop-ends.invariant.same
