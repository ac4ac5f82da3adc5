use Rattle.std.proofs.Common.{◌≡◌, ◌∙◌, ap, sym, subst, List, rules}
use Rattle.vx_rows.specs.Rows.{Rows, column_view, rows_len, dtype_of}
use Rattle.vx_write.specs.Plans.{plan_view, columns_of}
use Rattle.vx_write.specs.Leaves.{column_types, AreSound}
use Rattle.vx_write.specs.Chunks.{columns_seen, AllHaveLength}
use Rattle.vx_write.proofs.SplitLemmas.{columns_typed, columns_even, sound_columns}
use Rattle.vx_write.proofs.splitting.split.Goals as goal

pub returns-clause-typed : goal.returns-clause-typed
returns-clause-typed c =
    let are : columns_seen c.split_one.new.columns.items ≡ columns_of (plan_view c.args.plan.now) (column_view c.args.chunk.now) = search rules in
    ap column_types are ∙ columns_typed (plan_view c.args.plan.now) (column_view c.args.chunk.now) c.requires.fit

pub returns-clause-even : goal.returns-clause-even
returns-clause-even c =
    let are : columns_seen c.split_one.new.columns.items ≡ columns_of (plan_view c.args.plan.now) (column_view c.args.chunk.now) = search rules in
    subst (AllHaveLength (rows_len (column_view c.args.chunk.now))) (sym are) (columns_even (rows_len (column_view c.args.chunk.now)) (plan_view c.args.plan.now) (column_view c.args.chunk.now) c.requires.even)

pub returns-clause-sound : goal.returns-clause-sound
returns-clause-sound c =
    let are : columns_seen c.split_one.new.columns.items ≡ columns_of (plan_view c.args.plan.now) (column_view c.args.chunk.now) = search rules in
    subst AreSound (sym are)
    (sound_columns (rows_len (column_view c.args.chunk.now)) (columns_of (plan_view c.args.plan.now) (column_view c.args.chunk.now))
    (columns_even (rows_len (column_view c.args.chunk.now)) (plan_view c.args.plan.now) (column_view c.args.chunk.now) c.requires.even))
