use Rattle.std.proofs.Common.{◌≡◌, List, [], ◌∷◌, length, refl, rules, sym, subst, ◌∙◌}
use Rattle.vx_data.specs.Dtype.{dtype_view}
use Rattle.vx_rows.specs.declared.column.Column.{Column}
use Rattle.vx_rows.specs.Rows.{column_view}
use Rattle.vx_file.specs.Scans.{seen}
use Rattle.vx_file.proofs.JoiningLemmas.{Joins, joins_none, joins_more, joins_all}
use Rattle.vx_file.proofs.column_joining.join.Goals as goal

none-left : (cs : List Column) → length cs ≡ 0 → cs ≡ []
none-left [] e = refl
none-left (c ∷ cs) e = cc

pub loop-chunk-init : goal.loop-chunk-init
loop-chunk-init c =
    let all : c.into_iter-chunk-iterator.result.rest.items ≡ c.args.chunks.items = search rules in
    subst (λ (cs : List Column). Joins (dtype_view c.args.dtype.now) (seen c.args.chunks.items) (seen cs) c.in_ok-growing.growing) (sym all)
    (joins_none (dtype_view c.args.dtype.now) (seen c.args.chunks.items) c.in_ok-growing.growing c.requires c.in_ok-growing.ensures.value c.in_ok-growing.ensures.typed)

pub take_rows-requires-clause-typed : goal.take_rows-requires-clause-typed
take_rows-requires-clause-typed c =
    let step : c.loop-chunk.chunk-iterator.rest.items ≡ c.in-Some.chunk ∷ c.next.new.self.rest.items = search rules in
    let j = subst (λ (cs : List Column). Joins (dtype_view c.args.dtype.now) (seen c.args.chunks.items) (seen cs) c.loop-chunk.growing) step c.loop-chunk.invariant in
    j.chunks.0.0 ∙ sym j.typed

pub take_rows-requires-clause-even : goal.take_rows-requires-clause-even
take_rows-requires-clause-even c =
    let step : c.loop-chunk.chunk-iterator.rest.items ≡ c.in-Some.chunk ∷ c.next.new.self.rest.items = search rules in
    let j = subst (λ (cs : List Column). Joins (dtype_view c.args.dtype.now) (seen c.args.chunks.items) (seen cs) c.loop-chunk.growing) step c.loop-chunk.invariant in
    j.chunks.0.1

pub loop-chunk-preserved : goal.loop-chunk-preserved
loop-chunk-preserved c =
    let step : c.loop-chunk.chunk-iterator.rest.items ≡ c.in-Some.chunk ∷ c.next.new.self.rest.items = search rules in
    let j = subst (λ (cs : List Column). Joins (dtype_view c.args.dtype.now) (seen c.args.chunks.items) (seen cs) c.loop-chunk.growing) step c.loop-chunk.invariant in
    joins_more (dtype_view c.args.dtype.now) (seen c.args.chunks.items) (seen c.next.new.self.rest.items) (column_view c.in-Some.chunk) c.loop-chunk.growing c.take_rows.new.growing j
    (search rules)

pub returns : goal.returns
returns c =
    let long : length c.loop-chunk.chunk-iterator.rest.items ≡ c.loop-chunk.chunk-iterator.rest.len = search rules in
    let none = none-left c.loop-chunk.chunk-iterator.rest.items (long ∙ c.in-None.ensures.steps.0) in
    c.in_ok-finish.ensures.value ∙ joins_all (dtype_view c.args.dtype.now) (seen c.args.chunks.items) c.loop-chunk.growing
    (subst (λ (cs : List Column). Joins (dtype_view c.args.dtype.now) (seen c.args.chunks.items) (seen cs) c.loop-chunk.growing) none c.loop-chunk.invariant)
