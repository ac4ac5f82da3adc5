use Rattle.std.proofs.Common.{◌≡◌, refl, rules}
use Rattle.vx_data.specs.Dtype.{pairs_view as types_view}
use Rattle.vx_rows.specs.Rows.{pairs_view}
use Rattle.vx_file.specs.Scans.{seen}
use Rattle.vx_file.proofs.JoiningLemmas.{fields_zipped, names_long}
use Rattle.vx_file.proofs.column_joining.zip_all.Goals as goal

pub named-requires : goal.named-requires
named-requires c =
    let same : c.into_iter.result.rest.items ≡ c.args.columns.items = search rules in
    rw same (fields_zipped c.args.rows (types_view c.args.fields.now) (seen c.args.columns.items) c.requires)

pub present_structs-requires : goal.present_structs-requires
present_structs-requires c =
    let same : c.into_iter.result.rest.items ≡ c.args.columns.items = search rules in
    names_long (types_view c.args.fields.now) c.args.rows c.args.rows (seen c.args.columns.items) (pairs_view c.in_ok-fields.fields.items) c.requires
    (rw same at c.in_ok-fields.ensures) refl
