use Rattle.std.proofs.Common.{◌≡◌, ◌∙◌, ℤ, cond, List, map, Option, Some, None, is_some, ap, rules}
use Rattle.std.specs.List.{flat_map}
use Rattle.vx_rows.specs.Written.{cell}
use Rattle.vx_rows.proofs.MakingLemmas.{presence_made}
use Rattle.vx_rows.proofs.ValueLemmas.{made_ints, made_clear, made_long}
use Rattle.vx_rows.proofs.making.make_ints.Goals as goal

pub new-requires-clause-inside : goal.new-requires-clause-inside
new-requires-clause-inside c =
    let bytes : c.in_ok-held.held.bytes ≡ flat_map (cell c.args.ptype) c.args.values.now = search rules in
    made_long c.args.ptype c.args.values.now c.in_ok-held.held.bytes bytes

pub new-requires-clause-clear : goal.new-requires-clause-clear
new-requires-clause-clear c =
    let present : c.in_ok-present.present ≡ cond c.args.nullable (Some (map is_some c.args.values.now)) None = search rules in
    let bytes : c.in_ok-held.held.bytes ≡ flat_map (cell c.args.ptype) c.args.values.now = search rules in
    made_clear c.args.ptype c.args.values.now c.in_ok-present.present c.in_ok-held.held.bytes bytes (presence_made c.args.nullable c.args.values.now c.in_ok-present.present c.requires.allowed present)

pub returns : goal.returns
returns c =
    let present : c.in_ok-present.present ≡ cond c.args.nullable (Some (map is_some c.args.values.now)) None = search rules in
    let bytes : c.in_ok-held.held.bytes ≡ flat_map (cell c.args.ptype) c.args.values.now = search rules in
    c.in_ok-column.ensures
    ∙ ap (λ (rows : List (Option ℤ)). record { ptype = c.args.ptype; nullable = c.args.nullable; rows = rows })
    (made_ints c.args.ptype c.args.values.now c.in_ok-present.present c.in_ok-held.held.bytes bytes (presence_made c.args.nullable c.args.values.now c.in_ok-present.present c.requires.allowed present) c.requires.within)
