use Rattle.std.proofs.Common.{◌∙◌}
use Rattle.vx_source.proofs.FilingLemmas.{asked-block, asked-lost}
use Rattle.vx_source.proofs.filing.ask_block.Goals as goal

pub returns-in_err-block-clause-cause : goal.returns-in_err-block-clause-cause
returns-in_err-block-clause-cause g c =
    let state = g.R.Reader.state in
    asked-lost c.args.spans.now (state c.args.reader.now) (state c.ask.new.reader) c.in_ok-outcomes.outcomes c.from_residual-in_err-block.result c.from_residual-in_err-block.ensures.0
    (rw (c.as_slice.ensures.value ∙ c.in_ok-asked.ensures) at c.in_ok-outcomes.ensures.cause)

pub returns-clause-cause : goal.returns-clause-cause
returns-clause-cause g c =
    let state = g.R.Reader.state in
    asked-block c.args.spans.now (state c.args.reader.now) (state c.ask.new.reader) c.in_ok-outcomes.outcomes c.in_ok-block.block
    (rw (c.as_slice.ensures.value ∙ c.in_ok-asked.ensures) at c.in_ok-outcomes.ensures.cause) c.in_ok-block.ensures.reports c.in_ok-block.ensures.filed
