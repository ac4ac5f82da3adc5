use Rattle.std.proofs.Common.{◌≡◌, ◌∙◌, List, length, map, ap, sym, refl, rules, arith}
use Rattle.std.specs.Prelude.{Some}
use Rattle.vx_data.specs.StatsTable.{columns_of}
use Rattle.vx_data.specs.Dtype.{dtype_view}
use Rattle.vx_rows.specs.RowStats.{Running, stats_of}
use Rattle.vx_write.specs.Gathered.{gathered, sets_of, file_stats}
use Rattle.vx_write.proofs.GatheredLemmas.{sets_are, as_many_sets, some_stats}
use Rattle.vx_write.proofs.tail.statistics_of.Goals as goal

pub new_with_dtype-requires : goal.new_with_dtype-requires
new_with_dtype-requires c =
    let r = c.requires in
    let w = c.args.wanted.now in
    ap length (c.in_ok-sets.ensures ∙ ap (map (λ (x : Running). stats_of x.wanted x.seen)) r.1 ∙ sets_are w r.0) ∙ as_many_sets w r.0 ∙ ap (λ d. length (columns_of d)) r.2

pub returns : goal.returns
returns c =
    let w = c.args.wanted.now in
    record {
      dtypes = ap (λ s. s.dtypes) c.in_ok-statistics.ensures;
      value = λ seen is.
          let sets = c.in_ok-sets.ensures ∙ ap (map (λ (x : Running). stats_of x.wanted x.seen)) is ∙ sets_are w seen in
          ap Some (c.in_ok-statistics.ensures ∙ ap (λ x. record { sets = x; dtypes = columns_of (dtype_view c.args.dtype.now) }) sets)
          ∙ sym (some_stats w (dtype_view c.args.dtype.now) seen (search rules));
    }
