use Rattle.std.proofs.Common.{subst}
use Rattle.vx_data.specs.Dtype.{dtype_view}
use Rattle.vx_rows.specs.Rows.{column_view}
use Rattle.vx_generate.specs.Generated.{generated_dtype}
use Rattle.vx_commands.specs.Generated.{gen_options}
use Rattle.vx_commands.specs.MadeFiles.{MakesFile}
use Rattle.vx_commands.proofs.commands.generate.made_file.Goals as goal

pub returns : goal.returns
returns c =
    let table = c.in_ok-table.table in
    let by_options = subst (λ o. MakesFile o (dtype_view table.0) (column_view table.1) c.write.result) c.in_ok-options.ensures c.write.ensures in
    let by_type = subst (λ d. MakesFile (gen_options c.args.seed) d (column_view table.1) c.write.result) c.in_ok-table.ensures.dtype by_options in
    subst (λ r. MakesFile (gen_options c.args.seed) generated_dtype r c.write.result) c.in_ok-table.ensures.rows by_type
