use Rattle.std.proofs.Common.{subst, sym}
use Rattle.vx_data.specs.Dtype.{dtype_view}
use Rattle.vx_rows.specs.Rows.{column_view}
use Rattle.vx_commands.specs.Demo.{demo_dtype, demo_options, demo_rows}
use Rattle.vx_generate.specs.Tables.{IsTable}
use Rattle.vx_commands.proofs.MadeArms.{makes-same}
use Rattle.vx_commands.proofs.commands.demo.made_file.Goals as goal

pub write-requires : goal.write-requires
write-requires c = subst (λ d. IsTable d (column_view c.in_ok-column.column)) (sym c.row_type.ensures) c.in_ok-column.ensures.table

pub returns : goal.returns
returns c =
    makes-same c.in_ok-options.options demo_options (dtype_view c.row_type.result) demo_dtype (column_view c.in_ok-column.column) (demo_rows c.args.values.now) c.write.result
    c.in_ok-options.ensures c.row_type.ensures c.in_ok-column.ensures.value c.write.ensures
