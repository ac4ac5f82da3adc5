use Rattle.std.proofs.Common.{ap, ◌∙◌}
use Rattle.std.specs.Str.{bytes_eq}
use Rattle.std.specs.Map.{lookup, remove_entry}
use Rattle.vx_file.proofs.NamedLemmas.{seen, lookup-seen, remove-seen}
use Rattle.vx_file.proofs.named_footers.NamedFooters.remove.Goals as goal

pub returns-clause-value : goal.returns-clause-value
returns-clause-value c = c.pop.ensures.value ∙ lookup-seen c.args.path.now c.self.inside.kept.entries ∙ ap (lookup (bytes_eq c.args.path.now)) c.self.view_is

pub returns-clause-left : goal.returns-clause-left
returns-clause-left c = ap (λ k. seen k.entries) c.pop.ensures.entries ∙ remove-seen c.args.path.now c.self.inside.kept.entries ∙ ap (remove_entry (bytes_eq c.args.path.now)) c.self.view_is
