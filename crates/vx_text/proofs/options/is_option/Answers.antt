use Rattle.std.proofs.Common.{rules, ◌≡◌, ◌∙◌, false, not, Some, map, sym, ap}
use Rattle.std.specs.Prelude.{string_bytes}
use Rattle.vx_text.specs.Options.{shape_named}
use Rattle.vx_text.proofs.OptionLemmas.{is_some_map, turned, option_once}
use Rattle.vx_text.proofs.options.is_option.Goals as goal

pub returns-else-shape : goal.returns-else-shape
returns-else-shape c =
    let named : Some c.in-Some.shape.now ≡ shape_named c.args.shapes.now c.args.word.now = search rules in
    let single : c.in-Some.shape.now.repeats ≡ false = search rules in
    turned _ _ c.is_none.ensures
    ∙ ap not (sym (is_some_map (λ v. map string_bytes v.now) c.values_of.result))
    ∙ option_once c.args.shapes.now c.args.word.now c.args.words.now c.behind.result.now c.in-Some.shape.now c.values_behind-count.result _ named single c.values_behind-count.ensures c.behind.ensures c.values_of.ensures
