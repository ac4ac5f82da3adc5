use Rattle.vx_rows.proofs.BuilderLemmas.{bools_pushed, bools_kept}
use Rattle.vx_rows.proofs.bool_builder.BoolBuilder.push_row.Goals as goal

pub invariant_of-self-in-Ok : goal.invariant_of-self-in-Ok
invariant_of-self-in-Ok c =
    bools_kept c.self.inside.present c.push-2.new.self c.self.inside.values.items c.push.new.self.items c.args.is_there c.args.value c.args.self.now c.self.view_is
    c.self.invariant.0 c.requires.allowed c.in-Ok.ensures.ok c.in_ok-push.ensures.items c.requires.clear c.self.invariant.1

pub returns-in-Ok-clause-ok : goal.returns-in-Ok-clause-ok
returns-in-Ok-clause-ok c =
    bools_pushed c.self.inside.present c.push-2.new.self c.self.inside.values.items c.push.new.self.items c.args.is_there c.args.value c.args.self.now c.self.view_is
    c.self.invariant.0 c.requires.allowed c.in-Ok.ensures.ok c.in_ok-push.ensures.items
