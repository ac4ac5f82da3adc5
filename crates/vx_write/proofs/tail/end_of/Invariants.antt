use Rattle.std.proofs.Common.{◌≡◌, ◌++◌, ◌+◌, ◌≤◌, ◌<◌, ◌^◌, [], map, drop, take, length}
use Rattle.vx_footer.specs.Serialized.{joined}
use Rattle.vx_write.proofs.tail.end_of.Given as goal

abbrev pub invariant-loop-buffer : goal.invariant-loop-buffer
invariant-loop-buffer l = l.end + length (joined (drop l.buffer-index l.buffers)) ≡ l.offset + length (joined l.buffers)
