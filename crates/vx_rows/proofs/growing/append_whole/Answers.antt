use Rattle.std.proofs.Common.{ap}
use Rattle.vx_rows.specs.Rows.{dtype_of}
use Rattle.vx_rows.specs.Builders.{builder_view}
use Rattle.vx_rows.proofs.KeepLemmas.{cut_back, same_even}
use Rattle.vx_rows.proofs.growing.append_whole.Goals as goal

pub returns-in-Err-clause-err : goal.returns-in-Err-clause-err
returns-in-Err-clause-err c =
    cut_back (builder_view c.args.builder.now) (builder_view c.append_to.new.builder) (builder_view c.truncate.new.builder) c.len_of-before.result c.append_to.ensures.kept c.truncate.ensures
    c.len_of-before.ensures c.requires.old

pub returns-in-Err-clause-even : goal.returns-in-Err-clause-even
returns-in-Err-clause-even c =
    same_even (builder_view c.args.builder.now) (builder_view c.truncate.new.builder) c.requires.old
    (cut_back (builder_view c.args.builder.now) (builder_view c.append_to.new.builder) (builder_view c.truncate.new.builder) c.len_of-before.result c.append_to.ensures.kept c.truncate.ensures
    c.len_of-before.ensures c.requires.old)

pub returns-in-Err-clause-same : goal.returns-in-Err-clause-same
returns-in-Err-clause-same c =
    ap dtype_of
    (cut_back (builder_view c.args.builder.now) (builder_view c.append_to.new.builder) (builder_view c.truncate.new.builder) c.len_of-before.result c.append_to.ensures.kept c.truncate.ensures
    c.len_of-before.ensures c.requires.old)
