use Rattle.std.proofs.Common.{rules, ◌≡◌, ap, ◌∙◌}
use Rattle.std.specs.Arc.{arc_value}
use Rattle.vx_file.specs.LayoutReaders.{layout_in, statistics_in}
use Rattle.vx_file.proofs.KeptReaderLemmas.{kept_layout, kept_statistics}
use Rattle.vx_file.proofs.layout_readers.kept_reader.Goals as goal

pub returns-in-Some-clause-layout : goal.returns-in-Some-clause-layout
returns-in-Some-clause-layout c =
    let same : arc_value c.in_ok-try_clone.field-0 ≡ arc_value c.in-Some.reader.now = search rules in
    ap layout_in same ∙ kept_layout (arc_value c.in-Some.reader.now) c.args.footer.now.content c.args.slot.now.tag c.in-Some.ensures c.requires

pub returns-in-Some-clause-statistics : goal.returns-in-Some-clause-statistics
returns-in-Some-clause-statistics c =
    let same : arc_value c.in_ok-try_clone.field-0 ≡ arc_value c.in-Some.reader.now = search rules in
    ap statistics_in same ∙ kept_statistics (arc_value c.in-Some.reader.now) c.args.footer.now.content c.args.slot.now.tag c.in-Some.ensures c.requires
