use Rattle.vx_rows.proofs.BuilderLemmas.{texts_pushed, texts_kept}
use Rattle.vx_rows.proofs.text_builder.TextBuilder.push_row.Goals as goal

pub invariant_of-self-in-Ok : goal.invariant_of-self-in-Ok
invariant_of-self-in-Ok c =
    texts_kept c.self.inside.present c.push.new.self c.self.inside.bytes.items c.push_text.new.bytes.items c.self.inside.places c.push_text.new.places c.args.value.now c.args.is_there
    c.args.self.now c.self.view_is c.self.invariant.0 c.self.invariant.1 c.self.invariant.2 c.requires c.in-Ok.ensures.ok c.in_ok-push_text.ensures.bytes c.in_ok-push_text.ensures.places
    c.utf8.value c.self.invariant.3

pub returns-in-Ok-clause-ok : goal.returns-in-Ok-clause-ok
returns-in-Ok-clause-ok c =
    texts_pushed c.self.inside.present c.push.new.self c.self.inside.bytes.items c.push_text.new.bytes.items c.self.inside.places c.push_text.new.places c.args.value.now c.args.is_there
    c.args.self.now c.self.view_is c.self.invariant.0 c.self.invariant.1 c.self.invariant.2 c.requires c.in-Ok.ensures.ok c.in_ok-push_text.ensures.bytes c.in_ok-push_text.ensures.places
