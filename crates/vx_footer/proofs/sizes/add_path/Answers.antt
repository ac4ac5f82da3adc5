use Rattle.std.proofs.Common.{◌≡◌, true, false, Some, sym, ap, ◌∙◌}
use Rattle.std.specs.Prelude.{cond, is_some}
use Rattle.std.specs.BTreeMap.{is_at}
use Rattle.vx_data.specs.Paths.{Path, path_cmp}
use Rattle.vx_footer.specs.FieldSizes.{size_at}
use Rattle.vx_footer.proofs.PathLemmas.{path_kept, path_put}
use Rattle.vx_footer.proofs.sizes.add_path.Goals as goal

pub returns-then-contains_key : goal.returns-then-contains_key
returns-then-contains_key c = λ q.
    let there : is_some (size_at c.args.sizes.now.entries c.args.path.now) ≡ true
    = sym c.contains_key.ensures ∙ c.if-contains_key.true in
    path_kept c.args.sizes.now.entries c.args.path.now q there

pub returns : goal.returns
returns c = λ q.
    let gone : is_some (size_at c.args.sizes.now.entries c.args.path.now) ≡ false
    = sym c.contains_key.ensures ∙ c.if-contains_key.false in
    path_put c.args.sizes.now.entries c.insert.new.self.entries c.args.path.now q gone
    (c.in_ok-insert.ensures.updates.0 q ∙ ap (λ (p : Path). cond (is_at (path_cmp p) q) (Some 0) (size_at c.args.sizes.now.entries q)) c.in_ok-copy_of.ensures)
