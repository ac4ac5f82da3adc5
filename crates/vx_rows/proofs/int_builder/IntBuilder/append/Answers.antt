use Rattle.std.proofs.Common.{◌∙◌, ap, refl, ◌++◌, map, is_some}
use Rattle.std.specs.List.{flat_map}
use Rattle.vx_rows.specs.Columns.{Ints, may_hold}
use Rattle.vx_data.specs.declared.ptype.PType.{PType}
use Rattle.vx_rows.specs.Written.{cell}
use Rattle.vx_rows.proofs.JoinLemmas.{ints_joined, ints_joined_well}
use Rattle.vx_rows.proofs.CutBackLemmas.{held_there}
use Rattle.vx_rows.proofs.KeepLemmas.{ints_keep}
use Rattle.vx_rows.proofs.int_builder.IntBuilder.append.Goals as goal

pub push_flags-requires : goal.push_flags-requires
push_flags-requires c =
    held_there c.self.inside.present.nullable c.args.column.now.rows (map is_some c.args.column.now.rows) refl (ap (λ (x : Ints). may_hold x.nullable c.args.column.now.rows) c.self.view_is ∙ c.requires.allowed)

pub invariant_of-self-in-Ok : goal.invariant_of-self-in-Ok
invariant_of-self-in-Ok c =
    let flag = c.in-Ok.ensures.ok in
    let value = c.in_ok-push_cells.ensures.ok ∙ ap (λ (p : PType). c.self.inside.bytes.items ++ flat_map (cell p) c.args.column.now.rows) c.requires.same in
    ints_joined_well c.self.inside.kind c.self.inside.present c.push_flags.new.flags c.self.inside.bytes.items c.push_cells.new.bytes.items c.args.column.now.rows c.args.self.now c.self.view_is
    c.self.invariant.0 c.self.invariant.1 c.requires.allowed c.requires.within flag value

pub returns-in-Ok-clause-ok : goal.returns-in-Ok-clause-ok
returns-in-Ok-clause-ok c =
    let flag = c.in-Ok.ensures.ok in
    let value = c.in_ok-push_cells.ensures.ok ∙ ap (λ (p : PType). c.self.inside.bytes.items ++ flat_map (cell p) c.args.column.now.rows) c.requires.same in
    ints_joined c.self.inside.kind c.self.inside.present c.push_flags.new.flags c.self.inside.bytes.items c.push_cells.new.bytes.items c.args.column.now.rows c.args.self.now c.self.view_is
    c.self.invariant.0 c.self.invariant.1 c.requires.allowed c.requires.within flag value

pub returns-in-Ok-clause-kept : goal.returns-in-Ok-clause-kept
returns-in-Ok-clause-kept c =
    let flag = c.in-Ok.ensures.ok in
    let value = c.in_ok-push_cells.ensures.ok ∙ ap (λ (p : PType). c.self.inside.bytes.items ++ flat_map (cell p) c.args.column.now.rows) c.requires.same in
    ints_keep c.args.self.now c.args.column.now.rows _
    (ints_joined c.self.inside.kind c.self.inside.present c.push_flags.new.flags c.self.inside.bytes.items c.push_cells.new.bytes.items c.args.column.now.rows c.args.self.now c.self.view_is
    c.self.invariant.0 c.self.invariant.1 c.requires.allowed c.requires.within flag value)
