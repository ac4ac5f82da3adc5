use Rattle.std.proofs.Common.{rules, ◌≡◌, ◌-◌, ap}
use Rattle.vx_base.specs.Buffer.{Buffer, bytes_at}
use Rattle.vx_file.proofs.Covering.{cut-is}
use Rattle.vx_file.proofs.covered.cut.Goals as goal

pub returns : goal.returns
returns c = λ file end.
    let is : c.aligned.result ≡ record { bytes = bytes_at c.args.tail.now.bytes.bytes (c.args.spec.now.offset - c.args.tail.now.start) c.args.spec.now.length; alignment = c.args.spec.now.alignment } = search rules in
    cut-is file c.args.tail.now c.args.spec.now c.aligned.result end c.requires.covered (ap (λ (x : Buffer). x.bytes) is) (ap (λ (x : Buffer). x.alignment) is)
