use Rattle.std.proofs.Common.{ℕ, ◌∙◌, ap}
use Rattle.vx_data.specs.Dtype.{dtype_view}
use Rattle.vx_rows.specs.Rows.{column_view, rows_len}
use Rattle.vx_rows.specs.Parts.{part, appended}
use Rattle.vx_write.proofs.StillLemmas.{copied}
use Rattle.vx_write.proofs.feeding.copy_from.Goals as goal

pub returns : goal.returns
returns c =
    copied (dtype_view c.in_ok-dtype.dtype) (column_view c.args.column.now) c.append.new.self c.in_ok-copy.copy c.args.from (rows_len (column_view c.args.column.now))
    (c.in_ok-append.ensures.ok ∙ ap (λ (n : ℕ). appended c.in_ok-copy.copy (part c.args.from n (column_view c.args.column.now))) c.len.ensures) c.in_ok-copy.ensures.value c.in_ok-dtype.ensures
