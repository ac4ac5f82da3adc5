use Rattle.vx_generate.proofs.GeneratedLemmas.{columns_grown}
use Rattle.vx_generate.proofs.generating.generated_columns.Goals as goal

pub returns : goal.returns
returns c =
    columns_grown c.args.seed c.args.rows c.new-fields.result.items c.push_field.new.fields.items c.push_field-2.new.fields.items c.push_field-3.new.fields.items
    c.in_ok-id_column.field-0 c.in_ok-score_column.field-0 c.in_ok-name_column.field-0 c.new-fields.ensures.items c.in_ok-push_field.ensures c.in_ok-push_field-2.ensures c.in_ok-push_field-3.ensures
    c.in_ok-id_column.ensures c.in_ok-score_column.ensures c.in_ok-name_column.ensures
