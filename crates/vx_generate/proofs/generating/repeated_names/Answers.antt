use Rattle.std.proofs.Common.{◌≡◌, rules, arith, ap, sym, ◌∙◌}
use Rattle.vx_rows.specs.Rows.{column_view, dtype_of}
use Rattle.vx_generate.specs.Generated.{names, name_of}
use Rattle.vx_generate.proofs.GeneratedLemmas.{again_next, names_grown, names_long, names_even}
use Rattle.vx_generate.proofs.generating.repeated_names.Goals as goal

pub append-requires-clause-typed : goal.append-requires-clause-typed
append-requires-clause-typed c = ap dtype_of c.requires.made ∙ sym (ap dtype_of c.loop-first.invariant.there)

pub append-requires-clause-even : goal.append-requires-clause-even
append-requires-clause-even c = names_even c.args._seed c.args.size (column_view c.args.block.now) c.requires.made

pub append-requires-clause-inside : goal.append-requires-clause-inside
append-requires-clause-inside c =
    let long = names_long c.args._seed c.args.size (column_view c.args.block.now) c.requires.made in
    omega (arith, long, c.fewer-count.ensures)

pub loop-first-preserved : goal.loop-first-preserved
loop-first-preserved c =
    record {
      inside = omega (arith, c.fewer-count.ensures, c.loop-first.invariant.inside);
      there = names_grown c.args._seed c.args.size c.loop-first.first c.fewer-count.result c.args.rows c.loop-first.growing (column_view c.args.block.now) c.append.new.self
          c.loop-first.invariant.there c.requires.made c.in_ok-append.ensures.ok (omega (arith, c.fewer-count.ensures)) (omega (arith, c.fewer-count.ensures, c.loop-first.invariant.inside)) c.loop-first.invariant.again;
      again = again_next (name_of c.args._seed) c.args.size c.loop-first.first c.fewer-count.result c.args.rows c.requires.again c.loop-first-test.true c.fewer-count.ensures c.loop-first.invariant.again;
    }

pub returns : goal.returns
returns c =
    let end : c.loop-first.first ≡ c.args.rows = search rules in
    c.in_ok-column.ensures.value ∙ c.loop-first.invariant.there ∙ ap (names c.args._seed) end
