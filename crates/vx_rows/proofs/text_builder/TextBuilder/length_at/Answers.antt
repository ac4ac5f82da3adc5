use Rattle.std.proofs.Common.{◌≡◌, ◌+◌, ◌-◌, ◌∙◌, ap, rules, arith}
use Rattle.std.specs.Prelude.{slice_index}
use Rattle.vx_rows.proofs.CutBackLemmas.{row_inside, length_null, length_there}
use Rattle.vx_rows.proofs.text_builder.TextBuilder.length_at.Goals as goal

pub is_there-requires : goal.is_there-requires
is_there-requires c = row_inside c.self.inside.present c.self.inside.bytes.items c.self.inside.places c.args.row c.args.self.now c.self.view_is c.requires

pub at-requires : goal.at-requires
at-requires c =
    let inside = row_inside c.self.inside.present c.self.inside.bytes.items c.self.inside.places c.args.row c.args.self.now c.self.view_is c.requires in
    search (rules, inside, c.self.invariant.0)

pub behind-requires : goal.behind-requires
behind-requires c =
    let inside = row_inside c.self.inside.present c.self.inside.bytes.items c.self.inside.places c.args.row c.args.self.now c.self.view_is c.requires in
    search (rules, inside, c.self.invariant.0)

pub overflow_sub-result : goal.overflow_sub-result
overflow_sub-result c =
    let inside = row_inside c.self.inside.present c.self.inside.bytes.items c.self.inside.places c.args.row c.args.self.now c.self.view_is c.requires in
    let ordered = c.self.invariant.2.ordered c.args.row inside in
    let from : c.at.result ≡ slice_index c.self.inside.places c.args.row = search rules in
    let to : c.behind.result ≡ slice_index c.self.inside.places (c.args.row + 1) = search rules in
    omega (arith, ordered, from, to)

pub returns-then-is_there : goal.returns-then-is_there
returns-then-is_there c =
    let from : c.at.result ≡ slice_index c.self.inside.places c.args.row = search rules in
    let to : c.behind.result ≡ slice_index c.self.inside.places (c.args.row + 1) = search rules in
    ap (λ k. k - c.at.result) to ∙ ap (λ k. slice_index c.self.inside.places (c.args.row + 1) - k) from
    ∙ length_there c.self.inside.present c.self.inside.bytes.items c.self.inside.places c.args.row c.args.self.now c.self.view_is c.requires c.self.invariant.2 (search rules)

pub returns-else-is_there : goal.returns-else-is_there
returns-else-is_there c =
    length_null c.self.inside.present c.self.inside.bytes.items c.self.inside.places c.args.row c.args.self.now c.self.view_is c.requires (search rules)
