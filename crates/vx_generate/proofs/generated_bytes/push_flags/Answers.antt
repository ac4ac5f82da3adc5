use Rattle.std.proofs.Common.{◌∙◌, sym}
use Rattle.vx_rows.specs.Span.{span}
use Rattle.vx_generate.specs.Generated.{has_score}
use Rattle.vx_generate.proofs.GeneratedLemmas.{every_flag, flags_some}
use Rattle.vx_generate.proofs.generated_bytes.push_flags.Goals as goal

pub returns : goal.returns
returns c =
    flags_some (span (has_score c.args.seed) 0 c.args.rows) c.args.bytes.now.items c.push-2.new.self.items c.push_bitmap.new.bytes.items
    (every_flag (has_score c.args.seed) 0 c.args.rows ∙ sym c.have_scores.ensures ∙ c.if-have_scores.false) c.in_ok-push-2.ensures.items c.in_ok-push_bitmap.ensures
