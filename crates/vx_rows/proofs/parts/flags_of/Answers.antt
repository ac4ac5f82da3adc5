use Rattle.std.proofs.Common.{◌≡◌, None, rules}
use Rattle.vx_rows.proofs.MakingLemmas.{all_there}
use Rattle.vx_rows.proofs.parts.flags_of.Goals as goal

pub returns-then-is_none : goal.returns-then-is_none
returns-then-is_none c =
    let e : c.args.present.now ≡ None = search rules in
    let same = all_there c.args.present.now 0 c.args.rows e in
    search (same, rules)
