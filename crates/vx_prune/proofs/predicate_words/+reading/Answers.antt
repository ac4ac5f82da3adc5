use Rattle.std.proofs.Common.{map, arith}
use Rattle.std.specs.Prelude.{string_bytes}
use Rattle.vx_prune.proofs.WordSteps.{one-level}
use Rattle.vx_prune.proofs.predicate_words.+reading.Goals as goal

pub read_front-returns : goal.read_front-returns
read_front-returns t c =
    rw (one-level c.args.levels (map string_bytes c.args.words.now) (omega (arith, c.if-levels-eq0.false))) c.read_word.ensures
