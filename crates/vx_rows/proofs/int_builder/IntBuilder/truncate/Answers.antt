use Rattle.std.proofs.Common.{◌∙◌, ap, take, rules}
use Rattle.vx_rows.proofs.CutBackLemmas.{ints_truncated, ints_truncated_well}
use Rattle.vx_rows.proofs.int_builder.IntBuilder.truncate.Goals as goal

pub invariant_of-self : goal.invariant_of-self
invariant_of-self c =
    let value = c.truncate-2.ensures.items ∙ ap (λ k. take k c.self.inside.bytes.items) c.place_of.ensures in
    ints_truncated_well c.self.inside.kind c.self.inside.present c.truncate.new.self c.self.inside.bytes.items c.truncate-2.new.self.items c.args.rows c.min-kept.result c.args.self.now c.self.view_is
    c.self.invariant.0 (search rules) c.truncate.ensures value c.self.invariant.1

pub returns : goal.returns
returns c =
    let value = c.truncate-2.ensures.items ∙ ap (λ k. take k c.self.inside.bytes.items) c.place_of.ensures in
    ints_truncated c.self.inside.kind c.self.inside.present c.truncate.new.self c.self.inside.bytes.items c.truncate-2.new.self.items c.args.rows c.min-kept.result c.args.self.now c.self.view_is
    c.self.invariant.0 (search rules) c.truncate.ensures value
