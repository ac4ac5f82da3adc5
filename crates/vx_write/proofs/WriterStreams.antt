-- Chunks of a source that are pushed to a writer.
use Rattle.std.proofs.Common.{◌≡◌, ℕ, zero, suc, ◌<◌, List, [], ◌∷◌, ◌++◌, Option, Some, None, Result, Ok, Err, true, refl, sym, ap, subst, ◌∙◌, arith, inl, inr, ◌⊎◌}
use Rattle.std.proofs.lemmas.List.{append-nil}
use Rattle.vx_base.proofs.TakingLemmas.{rises-later}
use Rattle.vx_data.specs.Dtype.{Dtype}
use Rattle.vx_footer.specs.declared.write_error.WriteError.{WriteError}
use Rattle.vx_footer.specs.declared.write_error.WriteError.TheVariants.{OutOfMemory, ChunkFault}
use Rattle.vx_rows.specs.Rows.{Rows, column_view}
use Rattle.vx_rows.specs.declared.column.Column.{Column}
use Rattle.vx_write.specs.ChunkSources.{ChunkState, SameChunks, same_chunks-then, Came, Comes}
use Rattle.vx_write.specs.Options.{Options}
use Rattle.vx_write.specs.RowsWritten.{pushes}
use Rattle.vx_write.specs.Standing.{Broken}
use Rattle.vx_write.specs.Streamed.{SourceFailed}
use Rattle.vx_write.specs.Writers.{HasPushed, Pushes, StopsBehind, PushesStream}
use Rattle.vx_write.specs.Written.{sent}
use Rattle.vx_write.specs.declared.file_writer.FileWriter.{FileWriter}
use Rattle.vx_write.proofs.RowsLemmas.{pushes-last}
use Rattle.vx_write.proofs.StreamLemmas.{came_none, came_more, came_still}
use Rattle.vx_write.proofs.TakenLemmas.{whole_part}

-- what a push does, whatever was pushed before
abbrev pub PushesAny : Rows → FileWriter → FileWriter → Option (List ℕ) → Option (List ℕ) → Result (Unit {0}) WriteError → Type 0
PushesAny c w v g h result = (o : Options) (d : Dtype) (past : List Rows) (start : Option (List ℕ)) → HasPushed o d past start w g → Pushes o d past c start v h result

-- chunks that came so far, and were pushed
pub record SoFar (chunks chunks_now : ChunkState) (old new : FileWriter) (before now : Option (List ℕ)) : Type 0 where
  pub given : List Rows
  pub came : Came given chunks chunks_now
  pub pushed : (o : Options) (d : Dtype) (past : List Rows) (start : Option (List ℕ)) → HasPushed o d past start old before → HasPushed o d (pushes past given) start new now

pub so_far_none : (a : ChunkState) (w : FileWriter) (g : Option (List ℕ)) → SoFar a a w w g g
so_far_none a w g = record { given = []; came = came_none a; pushed = λ o d past start h. h }

pub so_far_more : (a b c : ChunkState) (old w v : FileWriter) (f g h : Option (List ℕ)) (chunk : Column) (s : SoFar a b old w f g)
    → ((all : List Rows) → b.rest ≡ Some all → Comes (Some chunk) all c.rest) → SameChunks b c → PushesAny (column_view chunk) w v g h (Ok tt) → SoFar a c old v f h
so_far_more a b c old w v f g h chunk s next same push = record {
  given = s.given ++ column_view chunk ∷ [];
  came = came_more s.given chunk a b c s.came next same;
  pushed = λ o d past start p.
      subst (λ cs. HasPushed o d cs start v h) (sym (pushes-last past s.given (column_view chunk))) (push o d (pushes past s.given) start (s.pushed o d past start p)).ok;
}

-- no chunk comes any more
pub all_pushed : (o : Options) (d : Dtype) (past : List Rows) (start : Option (List ℕ)) (a b c : ChunkState) (old w : FileWriter) (f g : Option (List ℕ)) (s : SoFar a b old w f g)
    → ((all : List Rows) → b.rest ≡ Some all → Comes None all c.rest) → SameChunks b c → HasPushed o d past start old f → PushesStream o d past start a c w g (Ok tt)
all_pushed o d past start a b c old w f g s next same p = record {
  given = s.given;
  came = record {
    told = λ all h. let x = s.came.told all h in let y = next x.0 x.2 in ([], x.1 ∙ ap (λ r. s.given ++ r) y.0, y.1);
    same = same_chunks-then a b c s.came.same same;
  };
  whole = λ all h. let x = s.came.told all h in let y = next x.0 x.2 in x.1 ∙ ap (λ r. s.given ++ r) y.0 ∙ append-nil s.given;
  ok = s.pushed o d past start p;
  err = tt;
}

-- a chunk is refused
pub refused_last : (o : Options) (d : Dtype) (past : List Rows) (start : Option (List ℕ)) (a b c : ChunkState) (old w v : FileWriter) (f g h : Option (List ℕ)) (chunk : Column) (e : WriteError)
    (s : SoFar a b old w f g) → ((all : List Rows) → b.rest ≡ Some all → Comes (Some chunk) all c.rest) → SameChunks b c → PushesAny (column_view chunk) w v g h (Err e)
    → HasPushed o d past start old f → PushesStream o d past start a c v h (Err e)
refused_last o d past start a b c old w v f g h chunk e s next same push p = record {
  given = s.given ++ column_view chunk ∷ [];
  came = came_more s.given chunk a b c s.came next same;
  whole = tt;
  ok = tt;
  err = inl (record { front = s.given; chunk = column_view chunk; split = refl; pushes = push o d (pushes past s.given) start (s.pushed o d past start p) });
}

-- a writer that was broken off
pub record BrokenOff (w v : FileWriter) : Type 0 where
  pub untouched : w.output.taken ≡ 0 → v ≡ w
  pub begun : 0 < w.output.taken → v ≡ record w { failed = true }

broken-off : (o : Options) (d : Dtype) (past : List Rows) (start : Option (List ℕ)) (w v : FileWriter) (g : Option (List ℕ)) (n : ℕ) → w.output.taken ≡ n → HasPushed o d past start w g → BrokenOff w v
    → (v.output.taken ≡ 0 → HasPushed o d past start v g) × (0 < v.output.taken → Broken o d past start v g)
broken-off o d past start w v g zero is h off = (
  (λ _. subst (λ x. HasPushed o d past start x g) (sym (off.untouched is)) h),
  (λ more. absurd (omega (arith, more, ap (λ (x : FileWriter). x.output.taken) (off.untouched is), is))),
)
broken-off o d past start w v g (suc n) is h off =
    let same = off.begun (omega (arith, is)) in (
      (λ nothing. absurd (omega (arith, nothing, ap (λ (x : FileWriter). x.output.taken) same, is))),
      (λ _. subst (λ x. Broken o d past start x g) (sym same) (record { failed = refl; took = whole_part (sent o d past) start g 0 w.output.taken h.stands.took })),
    )

stops : (o : Options) (d : Dtype) (past : List Rows) (start : Option (List ℕ)) (a b c : ChunkState) (old w v : FileWriter) (f g : Option (List ℕ)) (e : WriteError) (s : SoFar a b old w f g) → c.rest ≡ b.rest
    → SameChunks b c → BrokenOff w v → HasPushed o d past start old f → ((e ≡ ChunkFault) × SourceFailed a c) ⊎ (e ≡ OutOfMemory) → PushesStream o d past start a c v g (Err e)
stops o d past start a b c old w v f g e s still same off p because =
    let x = broken-off o d (pushes past s.given) start w v g w.output.taken refl (s.pushed o d past start p) off in
    record {
      given = s.given;
      came = came_still s.given a b c s.came still same;
      whole = tt;
      ok = tt;
      err = inr (record { untouched = x.0; begun = x.1; because = because });
    }

-- the source fails
pub stopped_by_source : (o : Options) (d : Dtype) (past : List Rows) (start : Option (List ℕ)) (a b c : ChunkState) (old w v : FileWriter) (f g : Option (List ℕ)) (s : SoFar a b old w f g) → c.rest ≡ b.rest
    → SameChunks b c → SourceFailed b c → BrokenOff w v → HasPushed o d past start old f → PushesStream o d past start a c v g (Err ChunkFault)
stopped_by_source o d past start a b c old w v f g s still same failed off p =
    stops o d past start a b c old w v f g ChunkFault s still same off p (inl (
      refl,
      record {
        may = λ sound. failed.may (s.came.same.never_fails ∙ sound);
        rises = rises-later _ _ _ s.came.same.never_falls failed.rises;
      },
    ))

-- memory runs out
pub stopped_by_memory : (o : Options) (d : Dtype) (past : List Rows) (start : Option (List ℕ)) (a b c : ChunkState) (old w v : FileWriter) (f g : Option (List ℕ)) (s : SoFar a b old w f g) → c.rest ≡ b.rest
    → SameChunks b c → BrokenOff w v → HasPushed o d past start old f → PushesStream o d past start a c v g (Err OutOfMemory)
stopped_by_memory o d past start a b c old w v f g s still same off p = stops o d past start a b c old w v f g OutOfMemory s still same off p (inr refl)
