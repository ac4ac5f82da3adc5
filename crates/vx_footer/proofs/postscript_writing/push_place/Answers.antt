use Rattle.std.proofs.Common.{rules, ◌≡◌, ◌∙◌, ap, [], ◌∷◌, ◌++◌}
use Rattle.vx_tables.specs.Block.{table}
use Rattle.vx_footer.proofs.postscript_writing.push_place.Goals as goal

pub returns : goal.returns
returns c =
    let pushed : c.push_table.new.self ≡ c.args.table.now ++ table c.args.slot c.in_ok-inner.inner ∷ [] = search rules in
    pushed ∙ ap (λ ps. c.args.table.now ++ table c.args.slot ps ∷ []) c.in_ok-inner.ensures
