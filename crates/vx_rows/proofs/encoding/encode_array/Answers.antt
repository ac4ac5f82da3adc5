use Rattle.std.proofs.Common.{◌≡◌, ◌++◌, ◌<◌, ◌≤◌, ◌^◌, ℕ, List, length, map, true, ◌∙◌, ap, rules, arith}
use Rattle.std.specs.Prelude.{string_bytes}
use Rattle.vx_base.specs.Buffer.{Buffer}
use Rattle.vx_rows.specs.Rows.{column_view}
use Rattle.vx_rows.specs.Encoded.{is_permitted, array_bytes}
use Rattle.vx_rows.proofs.MakingLemmas.{map_long}
use Rattle.vx_rows.proofs.TreeBackLemmas.{array_back}
use Rattle.vx_rows.proofs.encoding.encode_array.Goals as goal

pub returns-clause-back : goal.returns-clause-back
returns-clause-back c n is =
    let count = map_long string_bytes c.args.ids.now in
    let few : length (map string_bytes c.args.ids.now) ≤ 65536 = omega (arith, count, c.requires) in
    let known : is_permitted (map string_bytes c.args.ids.now) (column_view c.args.column.now) ≡ true = search rules in
    let pushed : c.push_column.new.bytes.items ≡ array_bytes (map string_bytes c.args.ids.now) (column_view c.args.column.now) =
    c.in_ok-push_column.ensures ∙ ap (λ (xs : List ℕ). xs ++ array_bytes (map string_bytes c.args.ids.now) (column_view c.args.column.now)) c.in_ok-bytes.ensures.items in
    let same : c.in_ok-from_vec.field-0.bytes ≡ array_bytes (map string_bytes c.args.ids.now) (column_view c.args.column.now) =
    ap (λ (b : Buffer). b.bytes) c.in_ok-from_vec.ensures ∙ pushed in
    let long = ap length pushed in
    let short : length (array_bytes (map string_bytes c.args.ids.now) (column_view c.args.column.now)) < 2 ^ 32 = omega (arith, long, c.if-len.false, c.len.ensures) in
    array_back (map string_bytes c.args.ids.now) (column_view c.args.column.now) n c.in_ok-from_vec.field-0.bytes few known short same is
