use Rattle.std.proofs.Common.{ap, ◌∙◌}
use Rattle.std.specs.Map.{lookup}
use Rattle.std.specs.Str.{bytes_eq}
use Rattle.vx_file.proofs.NamedLemmas.{lookup-seen}
use Rattle.vx_file.proofs.named_footers.NamedFooters.peek.Goals as goal

pub returns : goal.returns
returns c = c.peek.ensures ∙ lookup-seen c.args.path.now c.self.inside.kept.entries ∙ ap (lookup (bytes_eq c.args.path.now)) c.self.view_is
