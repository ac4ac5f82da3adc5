use Rattle.std.proofs.Common.{◌-◌, length, take, ap, sym, ◌∙◌}
use Rattle.std.specs.Option.{option_map}
use Rattle.lru.specs.LruCache.{last_entry}
use Rattle.vx_file.specs.KeptFooters.{KeptFooter}
use Rattle.vx_file.proofs.NamedLemmas.{seen, seen_entry, last-seen, front-seen}
use Rattle.vx_file.proofs.named_footers.NamedFooters.remove_last.Goals as goal

pub returns-in-Some-clause-value : goal.returns-in-Some-clause-value
returns-in-Some-clause-value c = ap (λ o. option_map (λ (e : KeptFooter). e.1) (option_map seen_entry o)) (sym c.in-Some.is ∙ c.pop_lru.ensures.value)
    ∙ ap (option_map (λ (e : KeptFooter). e.1)) (sym (last-seen c.self.inside.kept.entries)) ∙ ap (λ es. option_map (λ (e : KeptFooter). e.1) (last_entry es)) c.self.view_is

pub returns-in-Some-clause-left : goal.returns-in-Some-clause-left
returns-in-Some-clause-left c = ap (λ k. seen k.entries) c.pop_lru.ensures.entries ∙ front-seen c.self.inside.kept.entries ∙ ap (λ es. take (length es - 1) es) c.self.view_is

pub returns-clause-value : goal.returns-clause-value
returns-clause-value c = ap (λ o. option_map (λ (e : KeptFooter). e.1) (option_map seen_entry o)) (sym c.in-None.is ∙ c.pop_lru.ensures.value)
    ∙ ap (option_map (λ (e : KeptFooter). e.1)) (sym (last-seen c.self.inside.kept.entries)) ∙ ap (λ es. option_map (λ (e : KeptFooter). e.1) (last_entry es)) c.self.view_is

pub returns-clause-left : goal.returns-clause-left
returns-clause-left c = ap (λ k. seen k.entries) c.pop_lru.ensures.entries ∙ front-seen c.self.inside.kept.entries ∙ ap (λ es. take (length es - 1) es) c.self.view_is
