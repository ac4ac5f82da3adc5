use Rattle.std.proofs.Common.{◌∙◌, ap, refl, length, map, is_some}
use Rattle.vx_rows.specs.Columns.{Texts, may_hold}
use Rattle.vx_rows.proofs.BehindLemmas.{texts_joined, texts_joined_well}
use Rattle.vx_rows.proofs.CutBackLemmas.{held_there}
use Rattle.vx_rows.proofs.KeepLemmas.{texts_keep}
use Rattle.vx_rows.proofs.text_builder.TextBuilder.append.Goals as goal

pub push_flags-requires : goal.push_flags-requires
push_flags-requires c =
    held_there c.self.inside.present.nullable c.args.column.now.rows (map is_some c.args.column.now.rows) refl (ap (λ (x : Texts). may_hold x.nullable c.args.column.now.rows) c.self.view_is ∙ c.requires)

pub invariant_of-self-in-Ok : goal.invariant_of-self-in-Ok
invariant_of-self-in-Ok c =
    let flag = c.in_ok-push_flags.ensures.ok in
    let behind = c.in-Ok.ensures.ok (length c.self.inside.present.present) c.self.invariant.0 c.self.invariant.1 c.self.invariant.2 c.self.invariant.3 in
    texts_joined_well c.self.inside.present c.push_flags.new.flags c.self.inside.bytes.items c.append_to.new.bytes.items c.self.inside.places c.append_to.new.places c.args.column.now.rows
    c.args.self.now c.self.view_is c.requires flag behind

pub returns-in-Ok-clause-ok : goal.returns-in-Ok-clause-ok
returns-in-Ok-clause-ok c =
    let flag = c.in_ok-push_flags.ensures.ok in
    let behind = c.in-Ok.ensures.ok (length c.self.inside.present.present) c.self.invariant.0 c.self.invariant.1 c.self.invariant.2 c.self.invariant.3 in
    texts_joined c.self.inside.present c.push_flags.new.flags c.self.inside.bytes.items c.append_to.new.bytes.items c.self.inside.places c.append_to.new.places c.args.column.now.rows
    c.args.self.now c.self.view_is c.requires flag behind

pub returns-in-Ok-clause-kept : goal.returns-in-Ok-clause-kept
returns-in-Ok-clause-kept c =
    let flag = c.in_ok-push_flags.ensures.ok in
    let behind = c.in-Ok.ensures.ok (length c.self.inside.present.present) c.self.invariant.0 c.self.invariant.1 c.self.invariant.2 c.self.invariant.3 in
    texts_keep c.args.self.now c.args.column.now.rows _
    (texts_joined c.self.inside.present c.push_flags.new.flags c.self.inside.bytes.items c.append_to.new.bytes.items c.self.inside.places c.append_to.new.places c.args.column.now.rows
    c.args.self.now c.self.view_is c.requires flag behind)
