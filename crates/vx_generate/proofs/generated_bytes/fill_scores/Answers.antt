use Rattle.std.proofs.Common.{◌≡◌, ◌*◌, ◌+◌, length, rules, arith}
use Rattle.vx_data.specs.declared.ptype.PType.TheVariants.{I64}
use Rattle.vx_rows.specs.Written.{cell}
use Rattle.vx_generate.specs.Generated.{score_of}
use Rattle.vx_generate.proofs.GeneratedLemmas.{filled_more}
use Rattle.vx_generate.proofs.generated_bytes.fill_scores.Goals as goal

pub loop-k-preserved : goal.loop-k-preserved
loop-k-preserved c =
    let one = c.copy_from_slice.new.self in
    let long : length one ≡ 8 = search rules in
    record {
      long = search rules;
      filled = filled_more (cell I64) (score_of c.args.seed) (8 * c.loop-k.k) (8 * (c.loop-k.k + 1)) _ c.loop-k.k c.args.first c.loop-k.room one (omega (arith, long))
          (omega (arith, c.loop-k.invariant.long, c.requires.room, c.loop-k-test.true)) (search rules) c.loop-k.invariant.filled;
    }
