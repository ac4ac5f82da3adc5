use Rattle.vx_generate.proofs.generating.push_field.Goals as goal

pub returns : goal.returns
returns c = (c.in_ok-field.field, c.in_ok-push.ensures.items, c.in_ok-field.ensures.name, c.in_ok-field.ensures.column)
