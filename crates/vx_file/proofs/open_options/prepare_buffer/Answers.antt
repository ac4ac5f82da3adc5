use Rattle.std.proofs.Common.{◌≡◌, length, Some, rules, ap}
use Rattle.vx_file.specs.Buffers.{in_buffer}
use Rattle.vx_file.specs.Hints.{Hints}
use Rattle.vx_file.proofs.Buffers.{buffer-prepared}
use Rattle.vx_file.proofs.open_options.prepare_buffer.Goals as goal

pub returns : goal.returns
returns c =
    let bytes = c.args.buffer.now.bytes in
    let known = c.with_initial_read_size-known.result in
    let is : known ≡ in_buffer c.args.options bytes = search rules in
    let size : known.size ≡ Some (length bytes) = ap (λ (h : Hints). h.size) is in
    buffer-prepared c.args.options known bytes _ _ c.prepare_known.result is (search rules) (c.prepare_known.ensures.steady bytes (search rules) (search rules) size)
    (c.prepare_known.ensures.cause bytes (search rules) size) c.prepare_known.ensures.fault
