use Rattle.std.proofs.Common.{◌≡◌, ◌∙◌, ℕ, cond, List, map, Option, Some, None, is_some, ap, rules}
use Rattle.std.specs.List.{flat_map}
use Rattle.vx_rows.specs.Columns.{texts_of}
use Rattle.vx_rows.specs.Written.{text_bytes}
use Rattle.vx_rows.proofs.TextRowLemmas.{texts_held, held_ranges, held_texts, held_long}
use Rattle.vx_rows.proofs.making.make_texts.Goals as goal

pub new-requires-clause-long : goal.new-requires-clause-long
new-requires-clause-long c = held_long c.args.values.now c.in_ok-bytes.places c.in_ok-bytes.ensures.places

pub new-requires-clause-ranges : goal.new-requires-clause-ranges
new-requires-clause-ranges c =
    let bytes : c.in_ok-held.held.bytes ≡ flat_map text_bytes (texts_of c.args.values.now) = search rules in
    held_ranges c.args.values.now c.in_ok-held.held.bytes c.in_ok-bytes.places bytes c.in_ok-bytes.ensures.places

pub new-requires-clause-texts : goal.new-requires-clause-texts
new-requires-clause-texts c =
    let bytes : c.in_ok-held.held.bytes ≡ flat_map text_bytes (texts_of c.args.values.now) = search rules in
    held_texts c.args.values.now c.in_ok-held.held.bytes c.in_ok-bytes.places bytes c.in_ok-bytes.ensures.places

pub returns : goal.returns
returns c =
    let present : c.in_ok-present.present ≡ cond c.args.nullable (Some (map is_some c.args.values.now)) None = search rules in
    let bytes : c.in_ok-held.held.bytes ≡ flat_map text_bytes (texts_of c.args.values.now) = search rules in
    c.in_ok-column.ensures
    ∙ ap (λ (rows : List (Option (List ℕ))). record { nullable = c.args.nullable; rows = rows })
    (texts_held c.args.nullable c.args.values.now c.in_ok-present.present c.in_ok-held.held.bytes c.in_ok-bytes.places c.requires present bytes c.in_ok-bytes.ensures.places)
