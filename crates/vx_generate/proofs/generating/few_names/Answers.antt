use Rattle.std.proofs.Common.{◌≡◌, Ok, true, false, ap, sym, subst}
use Rattle.std.specs.Prelude.{is_ok}
use Rattle.vx_data.specs.Dtype.{Dtype, text}
use Rattle.vx_rows.specs.Rows.{column_view}
use Rattle.vx_rows.specs.Trees.{array}
use Rattle.vx_generate.specs.Generated.{names, generated_arrays}
use Rattle.vx_generate.proofs.GeneratedLemmas.{names_read, same_rows}
use Rattle.vx_generate.proofs.generating.few_names.Goals as goal

pub decoded-requires : goal.decoded-requires
decoded-requires c =
    subst (λ (d : Dtype). is_ok (array generated_arrays d c.args.rows c.in_ok-bytes.bytes.items) ≡ true) (sym c.name_type-dtype.ensures)
    (ap is_ok (names_read c.args.seed c.args.rows c.in_ok-bytes.bytes.items c.requires c.in_ok-bytes.ensures))

pub returns : goal.returns
returns c =
    same_rows (array generated_arrays (text false) c.args.rows c.in_ok-bytes.bytes.items) (column_view c.in_ok-column.column) (names c.args.seed c.args.rows)
    (subst (λ (d : Dtype). array generated_arrays d c.args.rows c.in_ok-bytes.bytes.items ≡ Ok (column_view c.in_ok-column.column)) c.name_type-dtype.ensures c.in_ok-column.ensures)
    (names_read c.args.seed c.args.rows c.in_ok-bytes.bytes.items c.requires c.in_ok-bytes.ensures)
