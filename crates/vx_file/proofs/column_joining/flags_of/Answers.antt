use Rattle.std.proofs.Common.{◌≡◌, ◌<◌, ◌≤◌, ◌++◌, ◌∷◌, [], false, None, length, rules, ◌∙◌}
use Rattle.std.specs.Prelude.{unwrap_or, slice_index_or}
use Rattle.vx_file.proofs.JoiningLemmas.{flags_more, flags_all}
use Rattle.vx_file.proofs.column_joining.flags_of.Goals as goal

pub loop-row-preserved : goal.loop-row-preserved
loop-row-preserved c =
    let inside : c.loop-row.row < length c.args.column.now.rows = search rules in
    let more : c.push.new.self.items ≡ c.loop-row.flags.items ++ unwrap_or (slice_index_or c.args.column.now.rows c.loop-row.row None) false ∷ [] = search rules in
    flags_more c.args.column.now.rows c.loop-row.row c.loop-row.flags.items c.push.new.self.items inside more ∙ c.loop-row.invariant

pub returns : goal.returns
returns c =
    let past : length c.args.column.now.rows ≤ c.loop-row.row = search rules in
    flags_all c.args.column.now.rows c.loop-row.row c.loop-row.flags.items past c.loop-row.invariant
