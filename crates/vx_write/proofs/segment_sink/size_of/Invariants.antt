use Rattle.std.proofs.Common.{◌≡◌, ◌+◌, length, drop}
use Rattle.vx_footer.specs.Serialized.{joined}
use Rattle.vx_write.proofs.segment_sink.size_of.Given as goal

-- the bytes so far and those still to come
abbrev pub invariant-loop-buffer : goal.invariant-loop-buffer
invariant-loop-buffer l = l.size + length (joined (drop l.buffer-index l.buffers)) ≡ length (joined l.buffers)
