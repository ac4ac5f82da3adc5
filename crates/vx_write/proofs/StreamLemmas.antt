-- Chunks that come from a source and are pushed.
use Rattle.std.proofs.Common.{◌≡◌, ℕ, ◌≤◌, List, [], ◌∷◌, ◌++◌, Option, Some, None, Result, Ok, Err, refl, sym, ap, subst, ◌∙◌, arith, append_assoc, inl, inr}
use Rattle.std.proofs.lemmas.List.{append-nil}
use Rattle.vx_base.specs.Counts.{Rises}
use Rattle.vx_base.specs.Streams.{SinkState, TookPrefix}
use Rattle.vx_base.proofs.TakingLemmas.{nothing-took, rises-later}
use Rattle.vx_data.specs.Dtype.{Dtype}
use Rattle.vx_footer.specs.ReadAgain.{content_read}
use Rattle.vx_footer.specs.declared.write_error.WriteError.{WriteError}
use Rattle.vx_footer.specs.declared.write_error.WriteError.TheVariants.{OutOfMemory, ChunkFault, WriteFault}
use Rattle.vx_rows.specs.Rows.{Rows, column_view}
use Rattle.vx_rows.specs.declared.column.Column.{Column}
use Rattle.vx_write.specs.ChunkSources.{ChunkState, ChunkCause, SameChunks, same_chunks-then, Came, Comes}
use Rattle.vx_write.specs.declared.chunk_source.ChunkError.{ChunkError}
use Rattle.vx_write.specs.declared.chunk_source.ChunkError.TheVariants.{Failed}
use Rattle.vx_write.specs.Options.{Options}
use Rattle.vx_write.specs.OpensAgain.{OpensAgain}
use Rattle.vx_write.specs.RowsWritten.{pushes, Pushing, PushingEnds, RowsAnswer, RowsLeave}
use Rattle.vx_write.specs.Standing.{Stands, Pushed}
use Rattle.vx_write.specs.Streamed.{SourceFailed, StreamPushed, StreamCut}
use Rattle.vx_write.specs.Taken.{SinkCause}
use Rattle.vx_write.specs.Written.{sent}
use Rattle.vx_write.specs.declared.file_writer.FileWriter.{FileWriter}
use Rattle.vx_write.specs.declared.streaming.StreamError.TheVariants as stream_error
use Rattle.vx_write.specs.declared.summary.WriteSummary.{WriteSummary}
use Rattle.vx_write.proofs.RowsLemmas.{pushing_start, pushing_step, pushing_ends, all-front}
use Rattle.vx_write.proofs.TakenLemmas.{whole_part, IsCalm, calm_cause}

-- ---- what a call of a source tells

pub next_some : (b c : ChunkState) (x : Option Column) (chunk : Column) → x ≡ Some chunk → ChunkCause b c (Ok x) → (all : List Rows) → b.rest ≡ Some all → Comes (Some chunk) all c.rest
next_some b c x chunk is h = subst (λ y. (all : List Rows) → b.rest ≡ Some all → Comes y all c.rest) is h.told

pub next_none : (b c : ChunkState) (x : Option Column) → x ≡ None → ChunkCause b c (Ok x) → (all : List Rows) → b.rest ≡ Some all → Comes None all c.rest
next_none b c x is h = subst (λ y. (all : List Rows) → b.rest ≡ Some all → Comes y all c.rest) is h.told

pub next_kept : (b c : ChunkState) (e : ChunkError) → ChunkCause b c (Err e) → c.rest ≡ b.rest
next_kept b c e h = h.kept

pub next_failed : (b c : ChunkState) (e : ChunkError) → e ≡ Failed → ChunkCause b c (Err e) → SourceFailed b c
next_failed b c e is h = record { may = λ sound. h.sound sound (ap (λ x. Err x) is); rises = h.failed (ap (λ x. Err x) is) }

-- ---- what came

pub same_chunks : (a : ChunkState) → SameChunks a a
same_chunks a = record { never_fails = refl; never_falls = omega arith; sound = λ _. refl }

pub came_none : (a : ChunkState) → Came [] a a
came_none a = record { told = λ all h. (all, refl, h); same = same_chunks a }

pub came_more : (given : List Rows) (chunk : Column) (a b c : ChunkState) → Came given a b → ((all : List Rows) → b.rest ≡ Some all → Comes (Some chunk) all c.rest)
    → SameChunks b c → Came (given ++ column_view chunk ∷ []) a c
came_more given chunk a b c came next same = record {
  told = λ all h. let x = came.told all h in let y = next x.0 x.2 in
      (y.0, x.1 ∙ ap (λ r. given ++ r) y.1 ∙ sym (append_assoc given (column_view chunk ∷ []) y.0), y.2);
  same = same_chunks-then a b c came.same same;
}

pub came_still : (given : List Rows) (a b c : ChunkState) → Came given a b → c.rest ≡ b.rest → SameChunks b c → Came given a c
came_still given a b c came still same = record {
  told = λ all h. let x = came.told all h in (x.0, x.1, still ∙ x.2);
  same = same_chunks-then a b c came.same same;
}

-- ---- chunks that were pushed so far: whatever comes behind them

pub record SoFar (chunks chunks_now : ChunkState) (old new : FileWriter) (before now : Option (List ℕ)) : Type 0 where
  pub given : List Rows
  pub came : Came given chunks chunks_now
  pub pushing : (o : Options) (d : Dtype) (start : Option (List ℕ)) → Stands o d [] start old before → (rest : List Rows) → Pushing o d (given ++ rest) rest start new now

pub so_far_none : (a : ChunkState) (w : FileWriter) (g : Option (List ℕ)) → SoFar a a w w g g
so_far_none a w g = record { given = []; came = came_none a; pushing = λ o d start s rest. pushing_start o d rest start w g s }

pub so_far_more : (a b c : ChunkState) (old w v : FileWriter) (f g h : Option (List ℕ)) (chunk : Column) (s : SoFar a b old w f g)
    → ((all : List Rows) → b.rest ≡ Some all → Comes (Some chunk) all c.rest) → SameChunks b c
    → ((o : Options) (d : Dtype) (past : List Rows) (start : Option (List ℕ)) → Stands o d past start w g → Pushed o d past (column_view chunk) start v h (Ok tt))
    → SoFar a c old v f h
so_far_more a b c old w v f g h chunk s next same pushed = record {
  given = s.given ++ column_view chunk ∷ [];
  came = came_more s.given chunk a b c s.came next same;
  pushing = λ o d start begun rest.
      let p = s.pushing o d start begun (column_view chunk ∷ rest) in
      subst (λ all. Pushing o d all rest start v h) (sym (append_assoc s.given (column_view chunk ∷ []) rest))
      (pushing_step o d (s.given ++ column_view chunk ∷ rest) rest (column_view chunk) start g h w v tt p (pushed o d (pushes [] p.front) start p.stands));
}

-- no chunk comes any more
pub all_pushed : (a b c : ChunkState) (old w : FileWriter) (f g : Option (List ℕ)) (s : SoFar a b old w f g)
    → ((all : List Rows) → b.rest ≡ Some all → Comes None all c.rest) → SameChunks b c → StreamPushed a c old w f g
all_pushed a b c old w f g s next same = record {
  given = s.given;
  came = record {
    told = λ all h. let x = s.came.told all h in let y = next x.0 x.2 in ([], x.1 ∙ ap (λ r. s.given ++ r) y.0, y.1);
    same = same_chunks-then a b c s.came.same same;
  };
  whole = λ all h. let x = s.came.told all h in let y = next x.0 x.2 in x.1 ∙ ap (λ r. s.given ++ r) y.0 ∙ append-nil s.given;
  pushing = λ o d start begun. subst (λ all. Pushing o d all [] start w g) (append-nil s.given) (s.pushing o d start begun []);
}

-- a chunk is refused
pub cut_by_writer : (a b c : ChunkState) (old w v : FileWriter) (f g h : Option (List ℕ)) (chunk : Column) (e : WriteError) (s : SoFar a b old w f g)
    → ((all : List Rows) → b.rest ≡ Some all → Comes (Some chunk) all c.rest) → SameChunks b c
    → ((o : Options) (d : Dtype) (past : List Rows) (start : Option (List ℕ)) → Stands o d past start w g → Pushed o d past (column_view chunk) start v h (Err e))
    → StreamCut a c old f h (stream_error.Writer e)
cut_by_writer a b c old w v f g h chunk e s next same pushed = record {
  given = s.given ++ column_view chunk ∷ [];
  came = came_more s.given chunk a b c s.came next same;
  ends = λ o d start begun.
      let p = s.pushing o d start begun (column_view chunk ∷ []) in
      pushing_ends o d (s.given ++ column_view chunk ∷ []) [] (column_view chunk) start g h w v e p (pushed o d (pushes [] p.front) start p.stands);
}

-- what was sent of all that came
so-far-front : (a b : ChunkState) (old w : FileWriter) (f g : Option (List ℕ)) (s : SoFar a b old w f g) (o : Options) (d : Dtype) (start : Option (List ℕ)) (begun : Stands o d [] start old f)
    → (s.pushing o d start begun []).front ≡ s.given
so-far-front a b old w f g s o d start begun = all-front o d (s.given ++ []) start g w (s.pushing o d start begun []) ∙ append-nil s.given

so-far-took : (a b : ChunkState) (old w : FileWriter) (f g : Option (List ℕ)) (s : SoFar a b old w f g) (o : Options) (d : Dtype) (start : Option (List ℕ)) → Stands o d [] start old f
    → TookPrefix (sent o d (pushes [] s.given)) start g
so-far-took a b old w f g s o d start begun =
    let p = s.pushing o d start begun [] in
    let x = whole_part (sent o d (pushes [] p.front)) start g 0 w.output.taken p.stands.took in
    subst (λ cs. TookPrefix (sent o d (pushes [] cs)) start g) (so-far-front a b old w f g s o d start begun) (record { count = x.count; took = x.took })

-- the source fails
pub cut_by_source : (a b c : ChunkState) (old w : FileWriter) (f g : Option (List ℕ)) (s : SoFar a b old w f g) → c.rest ≡ b.rest → SameChunks b c → SourceFailed b c
    → StreamCut a c old f g stream_error.Chunks
cut_by_source a b c old w f g s still same failed = record {
  given = s.given;
  came = came_still s.given a b c s.came still same;
  ends = (
    record { may = λ sound. failed.may (s.came.same.never_fails ∙ sound); rises = rises-later _ _ _ s.came.same.never_falls failed.rises },
    λ o d start begun. so-far-took a b old w f g s o d start begun,
  );
}

-- memory runs out
pub cut_by_memory : (a b c : ChunkState) (old w : FileWriter) (f g : Option (List ℕ)) (s : SoFar a b old w f g) → c.rest ≡ b.rest → SameChunks b c
    → StreamCut a c old f g (stream_error.Writer OutOfMemory)
cut_by_memory a b c old w f g s still same = record {
  given = s.given;
  came = came_still s.given a b c s.came still same;
  ends = λ o d start begun.
      let p = s.pushing o d start begun [] in
      subst (λ all. PushingEnds o d all start g OutOfMemory) (append-nil s.given) (record {
        front = p.front;
        rest = [];
        split = p.split;
        took = subst (λ cs. TookPrefix (sent o d (pushes [] cs)) start g) (sym (so-far-front a b old w f g s o d start begun)) (so-far-took a b old w f g s o d start begun);
        answer = p.answers (Err OutOfMemory) (λ _ no. absurd (no refl));
      });
}

-- ---- the sink, where it did not fail

ok-fault : {A : Type 0} (x : A) → ◌≡◌ {A = Result A WriteError} (Ok x) (Err WriteFault) → ⊥
ok-fault x is = cc

error-fault : (e : WriteError) → (e ≡ WriteFault → ⊥) → ◌≡◌ {A = Result (Unit {0}) WriteError} (Err e) (Err WriteFault) → ⊥
error-fault e h is = h cc

pub calm_pushed : (a b : SinkState) → IsCalm a b → SinkCause {A = Unit {0}} a b (Ok tt)
calm_pushed a b h = calm_cause a b (Ok tt) h (ok-fault tt)

pub calm_source : (a b : SinkState) → IsCalm a b → SinkCause {A = Unit {0}} a b (Err ChunkFault)
calm_source a b h = calm_cause a b (Err ChunkFault) h (error-fault ChunkFault (λ is. cc))

pub calm_memory : (a b : SinkState) → IsCalm a b → SinkCause {A = Unit {0}} a b (Err OutOfMemory)
calm_memory a b h = calm_cause a b (Err OutOfMemory) h (error-fault OutOfMemory (λ is. cc))
