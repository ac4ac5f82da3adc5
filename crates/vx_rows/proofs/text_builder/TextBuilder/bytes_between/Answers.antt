use Rattle.std.proofs.Common.{◌<◌, None, length, min, rules, arith}
use Rattle.vx_rows.specs.Written.{text_bytes}
use Rattle.vx_rows.proofs.SizeLemmas.{sum_next}
use Rattle.vx_rows.proofs.text_builder.TextBuilder.bytes_between.Goals as goal

pub loop-row-preserved : goal.loop-row-preserved
loop-row-preserved c =
    let inside : c.loop-row.row < min c.args.to (length c.args.self.now.rows) = search (rules, arith) in
    let next = sum_next (λ row. length (text_bytes row)) c.args.self.now.rows None c.loop-row.row c.args.to inside in
    search (rules, next, arith)
