-- Rows that are held back of a leaf.
use Rattle.std.specs.Prelude.{◌≡◌, ℕ, ◌-◌, ◌^◌, ◌≤◌, min, Option, Some, None, unwrap_or}
use Rattle.vx_rows.specs.Rows.{Rows, rows_len, IsColumn}
use Rattle.vx_rows.specs.Parts.{part, plain_size}
use Rattle.vx_write.specs.declared.strategy.LeafStrategy.{LeafStrategy}
use Rattle.vx_write.specs.declared.pending.Pending.{Pending}
use Rattle.vx_write.specs.Strategies.{HasBlocks}
use Rattle.vx_write.specs.Cutting.{cut, nothing_full}
use Rattle.vx_write.specs.Leaves.{Leaf}

-- rows that fill no chunk, and the sum of the sizes of their whole blocks
pub record Holds (s : LeafStrategy) (c : Rows) (gathered : ℕ) : Type 0 where
  pub blocks : HasBlocks s
  pub sound : IsColumn (rows_len c) c
  pub none_full : cut s c ≡ nothing_full 0 gathered

-- so many rows are held; behind them stand some of a push that is under way
pub record IsHeld (s : LeafStrategy) (c : Rows) (count gathered : ℕ) : Type 0 where
  pub inside : count ≤ rows_len c
  pub held : Holds s (part 0 count c) gathered

-- what is held once a push is settled: other rows, or those that stand there now
abbrev pub WillHold : LeafStrategy → Rows → Option Pending → Type 0
WillHold s c None = Unit {0}
WillHold s c (Some p) = Holds s (unwrap_or p.rows c) p.gathered

-- what a leaf keeps true
pub record KeepsLeaf (s : LeafStrategy) (c : Rows) (count gathered size : ℕ) (pending : Option Pending) : Type 0 where
  pub held : IsHeld s c count gathered
  pub size_is : size ≡ min (plain_size (part 0 count c)) (2 ^ 64 - 1)
  pub will_hold : WillHold s c pending

abbrev pub held_leaf : LeafStrategy → Rows → ℕ → Leaf
held_leaf s c count = record { strategy = s; kept = part 0 count c }

abbrev pub pending_leaf : LeafStrategy → Rows → ℕ → Option Pending → Leaf
pending_leaf s c count None = held_leaf s c count
pending_leaf s c count (Some p) = record { strategy = s; kept = unwrap_or p.rows c }
