use Rattle.std.proofs.Common.{◌≡◌, ◌∙◌, ap, take, rules}
use Rattle.std.specs.Prelude.{slice_index}
use Rattle.vx_rows.proofs.CutBackLemmas.{texts_truncated, texts_truncated_well}
use Rattle.vx_rows.proofs.text_builder.TextBuilder.truncate.Goals as goal

pub invariant_of-self : goal.invariant_of-self
invariant_of-self c =
    let place : c.at.result ≡ slice_index c.self.inside.places c.min-kept.result = search rules in
    let value = c.truncate-2.ensures.items ∙ ap (λ k. take k c.self.inside.bytes.items) place in
    texts_truncated_well c.self.inside.present c.truncate.new.self c.self.inside.bytes.items c.truncate-2.new.self.items c.self.inside.places c.truncate-3.new.self c.args.rows c.min-kept.result
    c.args.self.now c.self.view_is c.self.invariant.0 c.self.invariant.1 c.self.invariant.2 (search rules) c.truncate.ensures value c.truncate-3.ensures c.self.invariant.3

pub returns : goal.returns
returns c =
    let place : c.at.result ≡ slice_index c.self.inside.places c.min-kept.result = search rules in
    let value = c.truncate-2.ensures.items ∙ ap (λ k. take k c.self.inside.bytes.items) place in
    texts_truncated c.self.inside.present c.truncate.new.self c.self.inside.bytes.items c.truncate-2.new.self.items c.self.inside.places c.truncate-3.new.self c.args.rows c.min-kept.result
    c.args.self.now c.self.view_is c.self.invariant.0 c.self.invariant.1 c.self.invariant.2 (search rules) c.truncate.ensures value c.truncate-3.ensures
