use Rattle.std.proofs.Common.{◌≡◌, ◌+◌, ◌∙◌, ap, ap₂, Option, option_map, rules, arith}
use Rattle.vx_data.specs.declared.scalar.Scalar.{Scalar}
use Rattle.vx_data.specs.Scalar.{scalar_view}
use Rattle.vx_rows.specs.RowStats.{Running, Summary, lesser_of, greater_of, value_cmp}
use Rattle.vx_rows.proofs.ExtentLemmas.{joined, summary_more}
use Rattle.vx_rows.proofs.running_stats.RunningStats.merge.Goals as goal

pub overflow_add-self : goal.overflow_add-self
overflow_add-self c = omega (arith, c.self.invariant, c.other.invariant, ap (λ (r : Running). r.rows) c.self.view_is, ap (λ (r : Running). r.rows) c.other.view_is, c.requires.few)

pub returns-clause-seen : goal.returns-clause-seen
returns-clause-seen c = λ first second p q long longer typed old more.
    let s = c.self.inside in
    let m = c.other.inside in
    let least : c.take.result ≡ s.min = search rules in
    let most : c.take-2.result ≡ s.max = search rules in
    let low = c.lesser.ensures ∙ ap (λ (x : Option Scalar). lesser_of value_cmp (option_map scalar_view x) (option_map scalar_view m.min)) least in
    let high = c.greater.ensures ∙ ap (λ (x : Option Scalar). greater_of value_cmp (option_map scalar_view x) (option_map scalar_view m.max)) most in
    let step : ◌≡◌ {A = Summary} (record { min = option_map scalar_view c.lesser.result; max = option_map scalar_view c.greater.result; nulls = s.nulls + m.nulls })
    (joined (record { min = option_map scalar_view s.min; max = option_map scalar_view s.max; nulls = s.nulls }) (record { min = option_map scalar_view m.min; max = option_map scalar_view m.max; nulls = m.nulls })) =
    λ i. record { min = low i; max = high i; nulls = s.nulls + m.nulls } in
    summary_more c.args.self.now.seen _ q second
    (step ∙ ap₂ joined (ap (λ (r : Running). r.seen) c.self.view_is) (ap (λ (r : Running). r.seen) c.other.view_is ∙ more)) first p long typed old
