use Rattle.std.proofs.Common.{◌≡◌, ◌∙◌, Bool, false, cond, List, map, Option, Some, None, is_some, unwrap_or, ap, rules}
use Rattle.vx_rows.proofs.MakingLemmas.{bools_made, bools_clear}
use Rattle.vx_rows.proofs.making.make_bools.Goals as goal

pub new-requires-clause-clear : goal.new-requires-clause-clear
new-requires-clause-clear c =
    let present : c.in_ok-present.present ≡ cond c.args.nullable (Some (map is_some c.args.values.now)) None = search rules in
    let bits : c.in_ok-bits.bits ≡ map (λ (v : Option Bool). unwrap_or v false) c.args.values.now = search rules in
    bools_clear c.args.nullable c.args.values.now c.in_ok-present.present c.in_ok-bits.bits c.requires present bits

pub returns : goal.returns
returns c =
    let present : c.in_ok-present.present ≡ cond c.args.nullable (Some (map is_some c.args.values.now)) None = search rules in
    let bits : c.in_ok-bits.bits ≡ map (λ (v : Option Bool). unwrap_or v false) c.args.values.now = search rules in
    c.new.ensures
    ∙ ap (λ (rows : List (Option Bool)). record { nullable = c.args.nullable; rows = rows }) (bools_made c.args.nullable c.args.values.now c.in_ok-present.present c.in_ok-bits.bits c.requires present bits)
