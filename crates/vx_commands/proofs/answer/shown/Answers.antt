use Rattle.std.proofs.Common.{Err, ap, sym, ◌∙◌}
use Rattle.vx_commands.specs.Performs.{shown_of}
use Rattle.vx_commands.proofs.answer.shown.Goals as goal

pub returns-in-Err : goal.returns-in-Err
returns-in-Err g = ap Err g.output_failure.ensures ∙ ap shown_of (sym g.in-Err.is)
