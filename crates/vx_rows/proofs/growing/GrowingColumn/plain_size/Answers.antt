use Rattle.std.proofs.Common.{◌∙◌, ◌-◌, ◌^◌, min, ap}
use Rattle.vx_rows.specs.Rows.{Rows, rows_len}
use Rattle.vx_rows.specs.Parts.{part, plain_size}
use Rattle.vx_rows.proofs.ColumnLaws.{all-kept, column_rows}
use Rattle.vx_rows.proofs.growing.GrowingColumn.plain_size.Goals as goal

-- the part that begins with the first row is all rows
pub returns : goal.returns
returns c =
    c.size_between.ensures
    ∙ ap (λ (r : Rows). min (plain_size (part 0 c.len.result r)) (2 ^ 64 - 1)) c.self.view_is
    ∙ ap (λ n. min (plain_size (part 0 n c.args.self.now)) (2 ^ 64 - 1)) c.len.ensures.value
    ∙ ap (λ (r : Rows). min (plain_size r) (2 ^ 64 - 1)) (all-kept c.args.self.now (rows_len c.args.self.now) (column_rows (rows_len c.args.self.now) c.args.self.now c.len.ensures.sound))
