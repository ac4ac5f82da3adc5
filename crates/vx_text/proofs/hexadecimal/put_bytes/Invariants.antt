use Rattle.std.proofs.Common.{◌+◌, ◌*◌, ◌≤◌, length}
use Rattle.vx_text.proofs.HexLemmas.{PutSoFar}
use Rattle.vx_text.proofs.hexadecimal.put_bytes.Given as goal

abbrev pub invariant-loop-rest : goal.invariant-loop-rest
invariant-loop-rest l = record {
  put : PutSoFar l.fn.bytes l.rest l.fn.text l.text;
  room : length l.text.held + 2 * length l.rest ≤ 32768;
}

abbrev pub decreases-loop-rest : goal.decreases-loop-rest
decreases-loop-rest l = length l.rest

abbrev pub invariant-loop-byte : goal.invariant-loop-byte
invariant-loop-byte l = record {
  put : PutSoFar l.fn.bytes l.rest l.fn.text l.text;
  room : length l.text.held + 2 * length l.rest ≤ 32768;
}

abbrev pub decreases-loop-byte : goal.decreases-loop-byte
decreases-loop-byte l = length l.rest
