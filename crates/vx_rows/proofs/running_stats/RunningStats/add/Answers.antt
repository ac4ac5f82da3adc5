use Rattle.std.proofs.Common.{◌≡◌, ◌+◌, ◌∙◌, ap, ap₂, Option, option_map, rules, arith}
use Rattle.vx_data.specs.declared.scalar.Scalar.{Scalar}
use Rattle.vx_data.specs.Scalar.{scalar_view}
use Rattle.vx_rows.specs.Rows.{column_view}
use Rattle.vx_rows.specs.RowStats.{Running, Summary, lesser_of, greater_of, value_cmp}
use Rattle.vx_rows.proofs.ExtentLemmas.{joined, summary_few, summary_more}
use Rattle.vx_rows.proofs.running_stats.RunningStats.add.Goals as goal

pub overflow_add-self : goal.overflow_add-self
overflow_add-self c =
    let told = ap (λ (s : Summary). s.nulls) (c.more.view_is ∙ c.in_ok-more.ensures) in
    let few = summary_few c.args.present.now (column_view c.args.column.now) c.requires.long in
    let count = ap (λ (r : Running). r.rows) c.self.view_is in
    omega (arith, told, few, count, c.self.invariant, c.requires.few)

pub invariant_of-self : goal.invariant_of-self
invariant_of-self c =
    let told = ap (λ (s : Summary). s.nulls) (c.more.view_is ∙ c.in_ok-more.ensures) in
    let few = summary_few c.args.present.now (column_view c.args.column.now) c.requires.long in
    omega (arith, told, few, c.self.invariant, c.len.ensures)

pub returns-clause-seen : goal.returns-clause-seen
returns-clause-seen c =
    let s = c.self.inside in
    let m = c.more.inside in
    let first : c.take.result ≡ s.min = search rules in
    let last : c.take-2.result ≡ s.max = search rules in
    let low = c.lesser.ensures ∙ ap (λ (x : Option Scalar). lesser_of value_cmp (option_map scalar_view x) (option_map scalar_view m.min)) first in
    let high = c.greater.ensures ∙ ap (λ (x : Option Scalar). greater_of value_cmp (option_map scalar_view x) (option_map scalar_view m.max)) last in
    let step : ◌≡◌ {A = Summary} (record { min = option_map scalar_view c.lesser.result; max = option_map scalar_view c.greater.result; nulls = s.nulls + m.nulls })
    (joined (record { min = option_map scalar_view s.min; max = option_map scalar_view s.max; nulls = s.nulls }) (record { min = option_map scalar_view m.min; max = option_map scalar_view m.max; nulls = m.nulls })) =
    λ i. record { min = low i; max = high i; nulls = s.nulls + m.nulls } in
    summary_more c.args.self.now.seen _ c.args.present.now (column_view c.args.column.now)
    (step ∙ ap₂ joined (ap (λ (r : Running). r.seen) c.self.view_is) (c.more.view_is ∙ c.in_ok-more.ensures))
