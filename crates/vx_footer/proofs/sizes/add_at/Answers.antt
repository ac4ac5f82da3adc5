use Rattle.std.proofs.Common.{◌≡◌, ◌+◌, Some, sym, ap, ◌∙◌}
use Rattle.vx_footer.specs.FieldSizes.{size_at}
use Rattle.vx_footer.proofs.PathLemmas.{at_written, at_nothing, is_there}
use Rattle.vx_footer.proofs.sizes.add_at.Goals as goal

pub returns-in-Some : goal.returns-in-Some
returns-in-Some c = λ q.
    let found : size_at c.args.sizes.now.entries c.args.path.now ≡ Some c.in-Some.size.now = sym c.in-Some.ensures.value in
    at_written c.args.sizes.now.entries (c.get_mut.follows.lender (c.in-Some.size.now + c.args.bytes)).entries c.args.path.now q c.args.bytes c.in-Some.size.now
    (((c.get_mut.follows.holds (c.in-Some.size.now + c.args.bytes)).3 (is_there _ _ found)).0 q) found

pub returns-in_default : goal.returns-in_default
returns-in_default c = λ q.
    ap (λ m. size_at m.entries q) c.get_mut.follows.holds-at-none ∙ at_nothing c.args.sizes.now.entries c.args.path.now q c.args.bytes (sym c.in_default.ensures.value)
