use Rattle.std.proofs.Common.{◌∙◌, sym, ap, map, string_bytes, is_some}
use Rattle.std.specs.Prelude.{codes}
use Rattle.vx_text.specs.Options.{values_of}
use Rattle.vx_text.proofs.OptionLemmas.{is_some_map}
use Rattle.vx_commands.proofs.commands.serve.has_metadata.Goals as goal

pub returns : goal.returns
returns c = c.is_some.ensures ∙ sym (is_some_map (λ values. map string_bytes values.now) c.values_of.result) ∙ ap is_some c.values_of.ensures
    ∙ ap (λ shapes. is_some (values_of shapes (codes "--meta") (map string_bytes c.args.words.now))) c.shapes-shapes.ensures
