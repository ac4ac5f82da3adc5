use Rattle.std.proofs.Common.{◌∷◌, ap, subst, ◌<◌, ◌^◌, ◌∙◌}
use Rattle.std.specs.Str.{bytes_eq}
use Rattle.std.specs.Map.{lookup, remove_entry}
use Rattle.vx_file.proofs.NamedLemmas.{seen, lookup-seen, put-seen}
use Rattle.vx_file.proofs.named_footers.NamedFooters.put.Goals as goal

pub returns-in-Ok-clause-value : goal.returns-in-Ok-clause-value
returns-in-Ok-clause-value c = c.in-Ok.ensures.old ∙ lookup-seen c.args.path.bytes.items c.self.inside.kept.entries ∙ ap (lookup (bytes_eq c.args.path.bytes.items)) c.self.view_is

pub returns-in-Ok-clause-front : goal.returns-in-Ok-clause-front
returns-in-Ok-clause-front c = ap (λ k. seen k.entries) c.in-Ok.ensures.entries
    ∙ put-seen c.self.inside.kept c.args.path c.args.footer (subst (λ n. n < 2 ^ 63) c.len-few.ensures.len c.if-prove.false) c.self.invariant
    ∙ ap (λ es. (c.args.path.bytes.items, c.args.footer) ∷ remove_entry (bytes_eq c.args.path.bytes.items) es) c.self.view_is
