-- What a session does with its cache.
use Rattle.std.specs.Prelude.{◌≡◌, ℕ, Bool, true, false, Some, None, is_some}
use Rattle.vx_base.specs.Caches.{Segments, CacheState, OldEntries, buffer_of}
use Rattle.vx_base.specs.Counts.{Rises}
use Rattle.vx_source.specs.History.{Got, neither}
use Rattle.vx_source.specs.Fits.{is_gave, is_failing}

-- What the cache did when a register of a segment asked it, or not. It gives the segment exactly where its entries,
-- if it tells them, hold it and its count of faults did not rise.
pub record HasGot (asked : Bool) (segment : ℕ) (before now : CacheState) (got : Got) : Type 0 where
  pub unasked : asked ≡ false → (got ≡ neither) × (now ≡ before)
  pub gave : is_gave got ≡ true → (es : Segments) → before.entries ≡ Some es → is_some (buffer_of es segment) ≡ true
  pub lacks : asked ≡ true → got ≡ neither → (es : Segments) → before.entries ≡ Some es → buffer_of es segment ≡ None
  pub never : before.never_gives ≡ true → is_gave got ≡ false
  pub still : is_failing got ≡ false → now.faults ≡ before.faults
  pub failed : is_failing got ≡ true → Rises 1 before.faults now.faults
  pub puts : now.puts ≡ before.puts
  pub lost : now.lost ≡ before.lost
  pub from : OldEntries before.entries now.entries
  pub tells : is_some now.entries ≡ is_some before.entries
