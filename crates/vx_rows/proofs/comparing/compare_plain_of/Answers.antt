use Rattle.std.proofs.Common.{◌≡◌, ◌∙◌, ◌++◌, ◌∷◌, ◌+◌, ◌≤◌, [], vec_len, vec_capacity, ap, sym, rules, to_z, of_z}
use Rattle.std.specs.Int.{w128}
use Rattle.vx_data.specs.Scalar.{number}
use Rattle.vx_rows.specs.RowValues.{int_cell, value}
use Rattle.vx_rows.specs.Verdicts.{told, plain_told}
use Rattle.vx_rows.proofs.VerdictLemmas.{next_told}
use Rattle.vx_rows.proofs.comparing.compare_plain_of.Goals as goal

pub loop-row-preserved : goal.loop-row-preserved
loop-row-preserved c =
    let fits : to_z w128 (of_z w128 c.args.literal) ≡ c.args.literal = search rules in
    let here : c.of_number.result ≡ told c.args.verdict (int_cell c.plain_row-here.result) (value (number c.args.literal)) = search rules in
    let items : c.push_reserved.new.self.items ≡ c.loop-row.truths.items ++ c.of_number.result ∷ [] = search rules in
    let room : vec_len c.push_reserved.new.self + c.args.count ≤ vec_capacity c.push_reserved.new.self + (c.loop-row.row + 1) = search rules in
    let next : c.loop-row.row + 1 ≤ c.args.count = search rules in (
      next_told (plain_told c.args.verdict c.args.ptype c.args.bytes.now c.args.at (to_z w128 (of_z w128 c.args.literal))) c.loop-row.row c.loop-row.truths.items c.push_reserved.new.self.items c.of_number.result
          c.loop-row.invariant.0 items
          (here ∙ ap (λ r. told c.args.verdict (int_cell r) (value (number c.args.literal))) c.plain_row-here.ensures
          ∙ ap (λ n. plain_told c.args.verdict c.args.ptype c.args.bytes.now c.args.at n c.loop-row.row) (sym fits)),
      room,
      next,
    )
