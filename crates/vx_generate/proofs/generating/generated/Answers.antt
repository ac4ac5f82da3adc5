use Rattle.std.proofs.Common.{sym, subst}
use Rattle.vx_rows.specs.Rows.{column_view}
use Rattle.vx_generate.specs.Generated.{generated_dtype}
use Rattle.vx_generate.specs.Tables.{IsTable}
use Rattle.vx_generate.proofs.GeneratedLemmas.{generated_table}
use Rattle.vx_generate.proofs.generating.generated.Goals as goal

pub returns-clause-table : goal.returns-clause-table
returns-clause-table c =
    let table = subst (IsTable generated_dtype) (sym c.in_ok-column.ensures) (generated_table c.args.seed c.args.rows c.ranges.seed.fits c.requires) in
    subst (λ d. IsTable d (column_view c.in_ok-column.column)) (sym c.in_ok-dtype.ensures) table
