-- What a push of rows leaves of a leaf.
use Rattle.std.specs.Prelude.{◌≡◌, ℕ, List, ◌++◌, Option, Some, unwrap_or}
use Rattle.vx_rows.specs.Rows.{Rows, rows_len}
use Rattle.vx_rows.specs.Parts.{part, appended}
use Rattle.vx_write.specs.declared.strategy.LeafStrategy.{LeafStrategy}
use Rattle.vx_write.specs.declared.strategy.LeafStrategy.TheVariants.{Blocks}
use Rattle.vx_write.specs.declared.cutting.CutColumn.{CutColumn}
use Rattle.vx_write.specs.declared.feeding.Fed.{Fed}
use Rattle.vx_write.specs.Cutting.{Cut, cut, full_chunks, rest}
use Rattle.vx_write.specs.Holding.{Holds}
use Rattle.vx_write.specs.Chunks.{chunks_seen}
use Rattle.vx_write.specs.CutParts.{parts_from}

-- how a column is cut
abbrev pub cut_view : Rows → CutColumn → Cut
cut_view c cut = record { chunks = parts_from c 0 cut.ends.items; start = cut.start; gathered = cut.gathered }

-- the rows that were there are the first of those that are there now
abbrev pub StillThere : Rows → Rows → Type 0
StillThere old new = part 0 (rows_len old) new ≡ old

-- a column of which nothing was held before is cut behind full chunks, and what it leaves is held
pub record FeedsFirst (rows : ℕ) (target : Option ℕ) (before : List Rows) (push : Rows) (fed : Fed) : Type 0 where
  pub chunks : chunks_seen fed.chunks ≡ before ++ full_chunks (Blocks rows target) push
  pub kept : fed.pending.rows ≡ Some (rest (Blocks rows target) push)
  pub gathered : fed.pending.gathered ≡ (cut (Blocks rows target) push).gathered

-- the full chunks of rows that are held and of those of a push, and what is held then: other rows, or those that stand there
pub record Feeds (s : LeafStrategy) (held push c : Rows) (fed : Fed) : Type 0 where
  pub chunks : chunks_seen fed.chunks ≡ full_chunks s (appended held push)
  pub kept : unwrap_or fed.pending.rows c ≡ rest s (appended held push)
  pub holds : Holds s (unwrap_or fed.pending.rows c) fed.pending.gathered
