use Rattle.std.proofs.Common.{◌≡◌, ◌∙◌, ◌++◌, ◌∷◌, [], ℕ, length, Option, None, ap, sym, rules, arith}
use Rattle.std.specs.Prelude.{String, string_bytes}
use Rattle.std.specs.Global.{Global}
use Rattle.std.specs.Option.{option_map}
use Rattle.vx_rows.specs.Columns.{texts_of}
use Rattle.vx_rows.proofs.MakingLemmas.{map_at, map_long}
use Rattle.vx_rows.proofs.TextRowLemmas.{gathered_more}
use Rattle.vx_rows.proofs.making.gather.Goals as goal

pub loop-value-preserved : goal.loop-value-preserved
loop-value-preserved c =
    let long = map_long (λ (value : Option (String Global)). option_map string_bytes value) c.args.values.now in
    let row = ap (λ (value : Option (String Global)). option_map string_bytes value) c.value-item.is
    ∙ sym (map_at (λ (value : Option (String Global)). option_map string_bytes value) c.args.values.now c.loop-value.value-index _ None c.loop-value-test.true) in
    let size : c.len.result ≡ length c.push_text.new.bytes.items = search rules in
    gathered_more (texts_of c.args.values.now) c.loop-value.value-index (option_map string_bytes c.value-item.result) c.loop-value.bytes.items c.push_text.new.bytes.items c.loop-value.places
    c.push-in-loop-value.new.self c.loop-value.invariant (omega (arith, long, c.loop-value-test.true)) row c.in_ok-push_text.ensures
    (c.in_ok-push-2.ensures.ok ∙ ap (λ (n : ℕ). c.loop-value.places ++ n ∷ []) size)
