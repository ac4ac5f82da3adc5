use Rattle.std.proofs.Common.{rules}
use Rattle.vx_rows.proofs.CutBackLemmas.{bools_truncated, bools_truncated_well}
use Rattle.vx_rows.proofs.bool_builder.BoolBuilder.truncate.Goals as goal

pub invariant_of-self : goal.invariant_of-self
invariant_of-self c =
    bools_truncated_well c.self.inside.present c.truncate.new.self c.self.inside.values.items c.truncate-2.new.self.items c.args.rows c.min-kept.result c.args.self.now c.self.view_is
    c.self.invariant.0 (search rules) c.truncate.ensures c.truncate-2.ensures.items c.self.invariant.1

pub returns : goal.returns
returns c =
    bools_truncated c.self.inside.present c.truncate.new.self c.self.inside.values.items c.truncate-2.new.self.items c.args.rows c.min-kept.result c.args.self.now c.self.view_is
    c.self.invariant.0 (search rules) c.truncate.ensures c.truncate-2.ensures.items
