use Rattle.std.proofs.Common.{◌≡◌, ◌*◌, ◌+◌, length, rules, arith}
use Rattle.std.specs.Int.{w32, to_le_bytes}
use Rattle.vx_rows.specs.TextsBehind.{length_from}
use Rattle.vx_rows.proofs.FillingLemmas.{filled_more}
use Rattle.vx_rows.proofs.text_column.fill_narrow_lengths.Goals as goal

pub loop-k-preserved : goal.loop-k-preserved
loop-k-preserved c =
    let one = c.copy_from_slice.new.self in
    let long : length one ≡ 4 = search rules in
    record {
      long = search rules;
      filled = filled_more (to_le_bytes w32) (length_from c.args.places.now) (4 * c.loop-k.k) (4 * (c.loop-k.k + 1)) _ c.loop-k.k c.args.first c.loop-k.room one (omega (arith, long))
          (omega (arith, c.loop-k.invariant.long, c.requires.room, c.loop-k-test.true)) (search rules) c.loop-k.invariant.filled;
    }
