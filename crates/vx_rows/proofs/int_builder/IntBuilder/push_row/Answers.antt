use Rattle.std.proofs.Common.{◌∙◌, ap}
use Rattle.vx_rows.specs.ReadRows.{more_structs}
use Rattle.vx_rows.proofs.BuilderLemmas.{ints_pushed, ints_kept}
use Rattle.vx_rows.proofs.int_builder.IntBuilder.push_row.Goals as goal

pub invariant_of-self-in-Ok : goal.invariant_of-self-in-Ok
invariant_of-self-in-Ok c =
    ints_kept c.self.inside.kind c.self.inside.present c.push.new.self c.self.inside.bytes.items c.push_cell.new.bytes.items c.args.row c.args.self.now c.self.view_is
    c.self.invariant.0 c.requires.allowed (c.in-Ok.ensures.ok ∙ ap (more_structs c.self.inside.present) c.is_some.ensures) c.in_ok-push_cell.ensures.ok c.self.invariant.1

pub returns-in-Ok : goal.returns-in-Ok
returns-in-Ok c =
    ints_pushed c.self.inside.kind c.self.inside.present c.push.new.self c.self.inside.bytes.items c.push_cell.new.bytes.items c.args.row c.args.self.now c.self.view_is
    c.self.invariant.0 c.requires.allowed (c.in-Ok.ensures.ok ∙ ap (more_structs c.self.inside.present) c.is_some.ensures) c.in_ok-push_cell.ensures.ok c.requires.within
