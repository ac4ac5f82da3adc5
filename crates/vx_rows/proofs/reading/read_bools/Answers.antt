use Rattle.std.proofs.Common.{◌≡◌, true, rules}
use Rattle.vx_rows.specs.Span.{span, every}
use Rattle.vx_rows.specs.Bits.{bit}
use Rattle.vx_rows.specs.Arrays.{is_false}
use Rattle.vx_rows.proofs.MakingLemmas.{false_rows}
use Rattle.vx_rows.proofs.reading.read_bools.Goals as goal

pub new-requires-clause-clear : goal.new-requires-clause-clear
new-requires-clause-clear c =
    let bits : c.in_ok-values.values ≡ span (bit c.args.segment.now.bytes c.in_ok-present.from) 0 c.args.rows = search rules in
    let clear : every (is_false c.in_ok-present.present c.args.segment.now.bytes c.in_ok-present.from) 0 c.args.rows ≡ true = search rules in
    false_rows c.in_ok-present.present c.args.segment.now.bytes c.in_ok-present.from c.args.rows c.in_ok-values.values bits clear
