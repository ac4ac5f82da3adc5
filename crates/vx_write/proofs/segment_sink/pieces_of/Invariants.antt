use Rattle.std.proofs.Common.{◌≡◌, ◌++◌, drop}
use Rattle.std.specs.List.{flat_map}
use Rattle.vx_footer.specs.Serialized.{joined}
use Rattle.vx_write.proofs.segment_sink.pieces_of.Given as goal

-- the pieces so far and those still to come
abbrev pub invariant-loop-buffer : goal.invariant-loop-buffer
invariant-loop-buffer l = flat_map (λ piece. piece.now) l.pieces.items ++ joined (drop l.buffer-index l.buffers) ≡ l.zeros ++ joined l.buffers
