-- The laws of cutting, as the public call states them.
use Rattle.std.proofs.Common.{◌≡◌, ℕ, List, ◌++◌}
use Rattle.std.specs.List.{AllByRecursion}
use Rattle.vx_rows.specs.Rows.{Rows, rows_len, dtype_of, HasRows}
use Rattle.vx_write.specs.declared.strategy.LeafStrategy.{LeafStrategy}
use Rattle.vx_write.specs.Strategies.{HasBlocks}
use Rattle.vx_write.specs.Cutting.{cut, nothing_full, full_chunks, rest, joined, all_pushed, chunks_over, rest_over, IsPush}
use Rattle.vx_write.proofs.CutLaws.{pushes_chunks, all_rows, rest_open}

pub chunks_same : (s : LeafStrategy) (c : Rows) (pushes : List Rows) → HasBlocks s → HasRows (rows_len c) c → AllByRecursion (IsPush (dtype_of c)) pushes
    → full_chunks s (all_pushed c pushes) ≡ full_chunks s c ++ chunks_over s (rest s c) pushes
chunks_same s c pushes h k p = (pushes_chunks s pushes c h k p).0

pub rest_same : (s : LeafStrategy) (c : Rows) (pushes : List Rows) → HasBlocks s → HasRows (rows_len c) c → AllByRecursion (IsPush (dtype_of c)) pushes
    → rest s (all_pushed c pushes) ≡ rest_over s (rest s c) pushes
rest_same s c pushes h k p = (pushes_chunks s pushes c h k p).1

pub all_there : (s : LeafStrategy) (n : ℕ) (c : Rows) → HasBlocks s → HasRows n c → joined (full_chunks s c) (rest s c) ≡ c
all_there s n c h p = all_rows s n c h p

pub none_left : (s : LeafStrategy) (n : ℕ) (c : Rows) → HasBlocks s → HasRows n c → cut s (rest s c) ≡ nothing_full 0 (cut s c).gathered
none_left s n c h p = rest_open s n c h p
