use Rattle.std.proofs.Common.{◌≡◌, ◌-◌, ◌/◌, ◌≤◌}
use Rattle.vx_rows.specs.Rows.{column_view, rows_len}
use Rattle.vx_write.specs.CutParts.{parts_from, AreOrdered}
use Rattle.vx_write.specs.Cutting.{cut_blocks, with_chunks}
use Rattle.vx_write.proofs.PartsLemmas.{last_end}
use Rattle.vx_write.proofs.cutting.cut_column.Given as goal

-- the chunks so far and those still to come
abbrev pub invariant-loop-ends : goal.invariant-loop-ends
invariant-loop-ends l = record {
  inside : l.start ≤ rows_len (column_view l.column);
  ordered : AreOrdered 0 l.ends.items;
  last : last_end 0 l.ends.items ≡ l.start;
  same : with_chunks (parts_from (column_view l.column) 0 l.ends.items)
      (cut_blocks l.rows l.target (column_view l.column) l.start 0 l.start ((rows_len (column_view l.column) - l.start) / l.rows))
      ≡ cut_blocks l.rows l.target (column_view l.column) 0 0 0 (rows_len (column_view l.column) / l.rows);
}

abbrev pub decreases-loop-ends : goal.decreases-loop-ends
decreases-loop-ends l = rows_len (column_view l.column) - l.start
