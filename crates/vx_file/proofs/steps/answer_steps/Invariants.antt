use Rattle.std.proofs.Common.{◌≡◌, ◌+◌, ◌≤◌, ℕ, List, [], length, Some, true}
use Rattle.vx_base.specs.Caches.{SameCache}
use Rattle.vx_base.specs.Readers.{SameReader}
use Rattle.vx_source.specs.Fits.{World}
use Rattle.vx_source.specs.Stands.{Stands, EndsWithin}
use Rattle.vx_file.specs.Steps.{Answering}
use Rattle.vx_file.specs.StepsLeft.{steps_left}
use Rattle.vx_file.proofs.steps.answer_steps.Given as goal

abbrev pub invariant-loop-step : goal.invariant-loop-step
invariant-loop-step g l =
    let state = g.R.Reader.state in
    let cache = g.C.SegmentCache.state in
    record {
      answering : (w : World) → Stands w [] l.fn.session →
          Answering w (steps_left l.fn.steps) (steps_left l.step-iterator) (state l.fn.reader) (state l.reader) l.fn.session (cache l.fn.cache) (cache l.cache) l.replies l.session;
      steady : (w : World) (file : List ℕ) → (state l.fn.reader).never_fails ≡ true → (state l.fn.reader).bytes ≡ Some file → Stands w [] l.fn.session →
          EndsWithin (length file) w.table → (state l.reader).faults ≡ (state l.fn.reader).faults;
      settings : l.session.idle ≡ l.fn.session.idle;
      room : length l.session.requests + length (steps_left l.step-iterator) ≤ length l.fn.session.requests + l.fn.count;
      same : SameReader (state l.fn.reader) (state l.reader);
      same_cache : SameCache (cache l.fn.cache) (cache l.cache);
    }
