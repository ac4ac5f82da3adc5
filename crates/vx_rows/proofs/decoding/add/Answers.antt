use Rattle.std.proofs.Common.{◌≡◌, rules}
use Rattle.std.specs.Prelude.{string_bytes}
use Rattle.vx_rows.proofs.TreeLemmas.{added}
use Rattle.vx_rows.proofs.decoding.add.Goals as goal

pub returns : goal.returns
returns c =
    let same : string_bytes c.in_ok-clone.field-0 ≡ string_bytes c.args.name.now = search rules in
    added c.args.fields.now.items c.push.new.self.items c.args.name.now c.in_ok-clone.field-0 c.args.column c.in_ok-push.ensures.items same
