use Rattle.std.proofs.Common.{◌≡◌, ◌∙◌, Bool, cond, List, Some, None, ap, rules}
use Rattle.vx_rows.proofs.MakingLemmas.{structs_made}
use Rattle.vx_rows.proofs.making.make_structs.Goals as goal

pub returns : goal.returns
returns c =
    let present : c.in_ok-bits.bits ≡ cond c.args.nullable (Some c.args.present.now) None = search rules in
    c.new.ensures ∙ ap (λ (ps : List Bool). record { nullable = c.args.nullable; present = ps }) (structs_made c.args.nullable c.args.present.now c.in_ok-bits.bits c.requires present)
