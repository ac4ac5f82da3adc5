use Rattle.std.proofs.Common.{refl, rules, [], ◌∙◌}
use Rattle.vx_footer.specs.FieldSizes.{size_at, references_of}
use Rattle.vx_footer.proofs.CountLemmas.{sizes_are}
use Rattle.vx_footer.proofs.sizes.sizes_of.Goals as goal

pub returns : goal.returns
returns c = λ t ss paths_are named_is commons_is.
    sizes_are t ss c.args.named.now c.table.result.now (references_of [] t) c.args.gathered.now.commons
    (λ q. size_at c.in_ok-sizes.sizes.entries q) c.add_lengths.new.sizes.entries c.total_of-whole.result
    (λ q. (search rules) ∙ paths_are q) refl named_is commons_is c.in_ok-sizes.ensures c.in_ok-add_lengths.ensures c.len-count.ensures.ordered c.total_of-whole.ensures
