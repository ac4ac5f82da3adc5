use Rattle.std.proofs.Common.{◌∙◌, ap, map, string_bytes}
use Rattle.std.specs.Prelude.{codes}
use Rattle.vx_text.specs.Options.{values_of}
use Rattle.vx_commands.proofs.commands.scan.filter_words.Goals as goal

pub returns : goal.returns
returns c = c.values_of.ensures ∙ ap (λ shapes. values_of shapes (codes "--filter") (map string_bytes c.args.words.now)) c.shapes-shapes.ensures
