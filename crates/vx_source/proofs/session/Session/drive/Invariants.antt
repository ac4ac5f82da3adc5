use Rattle.std.proofs.Common.{◌≡◌, ℕ, List, Some, true, length}
use Rattle.vx_base.specs.Caches.{SameCache}
use Rattle.vx_base.specs.Readers.{SameReader}
use Rattle.vx_source.specs.Puts.{PutsBy}
use Rattle.vx_sched.specs.Counting.{count_in}
use Rattle.vx_sched.specs.declared.read.ReadState.TheVariants.{Polled}
use Rattle.vx_source.specs.Asks.{bad_spans}
use Rattle.vx_source.specs.Bytes.{HasBytes, TellsSlices}
use Rattle.vx_source.specs.Fits.{World}
use Rattle.vx_source.specs.History.{Moment}
use Rattle.vx_source.specs.Stands.{Stands, EndsWithin}
use Rattle.vx_source.proofs.DriveLemmas.{Driving, Asking}
use Rattle.vx_source.proofs.session.Session.drive.Given as goal

abbrev pub invariant-loop-done : goal.invariant-loop-done
invariant-loop-done g l =
    let state = g.R.Reader.state in
    let cache = g.C.SegmentCache.state in
    record {
      driving : (w : World) (past : List Moment) → Stands w past l.fn.self → Driving w past l.done.items l.self;
      bytes : (w : World) (past : List Moment) (file : List ℕ) → (state l.fn.reader).bytes ≡ Some file → Stands w past l.fn.self → HasBytes file l.fn.self → HasBytes file l.self;
      puts : (w : World) (past : List Moment) → Stands w past l.fn.self → PutsBy past l.done.items (cache l.fn.cache) (cache l.cache);
      same_cache : SameCache (cache l.fn.cache) (cache l.cache);
      slices : (w : World) (past : List Moment) (file : List ℕ) → (state l.fn.reader).bytes ≡ Some file → Stands w past l.fn.self → HasBytes file l.fn.self →
          TellsSlices file w.table (cache l.fn.cache) → TellsSlices file w.table (cache l.cache);
      steady : (w : World) (past : List Moment) (file : List ℕ) → (state l.fn.reader).never_fails ≡ true → (state l.fn.reader).bytes ≡ Some file → Stands w past l.fn.self →
          EndsWithin (length file) w.table → (state l.reader).faults ≡ (state l.fn.reader).faults;
      sound : (w : World) (past : List Moment) (file : List ℕ) → (state l.fn.reader).never_fails ≡ true → (state l.fn.reader).bytes ≡ Some file → Stands w past l.fn.self →
          EndsWithin (length file) w.table → bad_spans l.done.items ≡ 0;
      made : length l.self.requests ≡ length l.fn.self.requests;
      asking : Asking l.done.items (state l.fn.reader) (state l.reader);
      idle : l.self.idle ≡ l.fn.self.idle;
      same : SameReader (state l.fn.reader) (state l.reader);
    }

abbrev pub decreases-loop-done : goal.decreases-loop-done
decreases-loop-done g l = count_in Polled l.self.core.reads
