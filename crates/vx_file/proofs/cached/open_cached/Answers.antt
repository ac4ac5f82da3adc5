use Rattle.std.proofs.Common.{Some, ap, sym, ◌∙◌}
use Rattle.vx_file.proofs.CachedLemmas.{of_three}
use Rattle.vx_file.proofs.cached.open_cached.Goals as goal

pub returns-clause-opens : goal.returns-clause-opens
returns-clause-opens g c = of_three c.open_kept.result c.open_kept.ensures.session c.open_kept.ensures.keeps c.open_kept.ensures.opens
    (λ f session keeps opens. (
      c.as_str.result.now,
      c.in-Ok-open_options.plain,
      c.options-chosen.result,
      c.options-chosen.ensures,
      c.in-Ok-open_options.ensures.0,
      c.in-Ok-open_options.ensures.1,
      session,
      c.in-Ok.ensures.key ∙ ap Some (sym c.as_str.ensures.value),
      keeps,
      opens,
    ))

pub returns-clause-fails : goal.returns-clause-fails
returns-clause-fails g c = λ e h. (
  c.as_str.result.now,
  c.in-Ok-open_options.plain,
  c.options-chosen.result,
  c.options-chosen.ensures,
  c.in-Ok-open_options.ensures.0,
  c.in-Ok-open_options.ensures.1,
  c.in-Ok.ensures.key ∙ ap Some (sym c.as_str.ensures.value),
  c.open_kept.ensures.fails e h,
)
