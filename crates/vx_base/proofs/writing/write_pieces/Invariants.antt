use Rattle.std.proofs.Common.{List, ℕ, Option, drop}
use Rattle.std.specs.List.{flat_map}
use Rattle.vx_base.specs.Streams.{Took, TookPrefix, SameSink}
use Rattle.vx_base.proofs.TakingLemmas.{Faultless}
use Rattle.vx_base.proofs.writing.write_pieces.Given as goal

abbrev pub invariant-loop-piece : goal.invariant-loop-piece
invariant-loop-piece g l =
    let state = g.S.Sink.state in
    record {
      took : (final : Option (List ℕ)) → Took (flat_map (λ piece. piece.now) (drop l.piece-index l.pieces)) (state l.sink).gained final → Took (flat_map (λ piece. piece.now) l.pieces) (state l.fn.sink).gained final;
      prefix : (final : Option (List ℕ)) → TookPrefix (flat_map (λ piece. piece.now) (drop l.piece-index l.pieces)) (state l.sink).gained final → TookPrefix (flat_map (λ piece. piece.now) l.pieces) (state l.fn.sink).gained final;
      same : SameSink (state l.fn.sink) (state l.sink);
      faultless : Faultless (state l.fn.sink) (state l.sink);
    }
