use Rattle.std.proofs.Common.{rules}
use Rattle.vx_footer.specs.FieldSizes.{size_at}
use Rattle.vx_footer.specs.Gathering.{path_at}
use Rattle.vx_footer.proofs.PathLemmas.{next_path}
use Rattle.vx_footer.proofs.sizes.no_sizes.Goals as goal

pub loop-number-preserved : goal.loop-number-preserved
loop-number-preserved c = λ q.
    next_path c.args.table.now c.loop-number.number (path_at c.args.table.now c.loop-number.number) q (size_at c.loop-number.sizes.entries q) (size_at c.add_path.new.sizes.entries q)
    (search rules) (search rules) (c.loop-number.invariant q) (search rules)
