use Rattle.std.proofs.Common.{ap, ◌∙◌}
use Rattle.std.specs.Str.{bytes_eq}
use Rattle.lru.specs.LruCache.{promoted}
use Rattle.vx_file.proofs.NamedLemmas.{seen, promoted-seen}
use Rattle.vx_file.proofs.named_footers.NamedFooters.promote.Goals as goal

pub returns : goal.returns
returns c = ap (λ k. seen k.entries) c.promote.ensures.entries ∙ promoted-seen c.args.path.now c.self.inside.kept.entries ∙ ap (promoted (bytes_eq c.args.path.now)) c.self.view_is
