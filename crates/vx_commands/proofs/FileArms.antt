-- The file of rows: what writing it answers and leaves.
use Rattle.std.proofs.Common.{◌≡◌, ℕ, ◌+◌, ◌<◌, ◌^◌, List, [], ◌∷◌, ◌++◌, Option, Some, None, Result, Ok, Err, refl, sym, ap, subst, arith, inl, inr, ◌⊎◌}
use Rattle.std.specs.Prelude.{IsOk, IfOk}
use Rattle.vx_base.specs.Checks.{◌>>=◌}
use Rattle.vx_base.specs.Streams.{SinkState, Took, TookPrefix}
use Rattle.vx_base.proofs.TakingLemmas.{took-first}
use Rattle.std.proofs.lemmas.List.{append-nil}
use Rattle.vx_data.specs.Dtype.{Dtype}
use Rattle.vx_footer.specs.ReadAgain.{content_read}
use Rattle.vx_footer.specs.Serializing.{Parts}
use Rattle.vx_footer.specs.declared.write_error.WriteError.{WriteError}
use Rattle.vx_footer.specs.declared.write_error.WriteError.TheVariants as write_error
use Rattle.vx_rows.specs.Rows.{Rows, rows_len}
use Rattle.vx_write.specs.OpensAgain.{OpensAgain}
use Rattle.vx_write.specs.Options.{Options}
use Rattle.vx_write.specs.RowsWritten.{Then, RowsAnswer, ChunksAnswer, RowsLeave, CutShort, pushes}
use Rattle.vx_write.specs.Taken.{Checked, SinkCause}
use Rattle.vx_write.specs.Written.{IsChunk, begin_checks, push_checks, end_checks, sent, written, whole, chunks_sent}
use Rattle.vx_write.specs.declared.summary.WriteSummary.{WriteSummary}
use Rattle.vx_commands.specs.RowsFiles.{file_checks, refusal_in, told, WritesFile}
use Rattle.vx_generate.specs.Tables.{IsTable}
use Rattle.vx_commands.specs.WriteWords.{options_of}
use Rattle.vx_commands.specs.declared.rows_file.RowsFile.{RowsFile}

-- checks one after the other, of which each is looked at where those before it passed
then-checked : {A B C : Type 0} (answer : Result A WriteError) (first : Result B WriteError) (next : Result C WriteError) (rest : Type 0)
    → (rest → Checked answer next) → Then answer first rest → Checked answer (first >>= λ _. next)
then-checked answer (Ok x) next rest on h = on h
then-checked (Ok y) (Err e) next rest on h = h
then-checked (Err f) (Err e) next rest on h = λ a b. let k = h a b in let same : e ≡ f = cc in ap Err same

from-zero : (n : ℕ) → n ≡ 0 + n
from-zero n = omega arith

is_chunk : (d : Dtype) (c : Rows) → IsTable d c → IsChunk d c
is_chunk d c t = record { typed = t.typed; even = t.even }

-- what writing a chunk of the type answers is what its checks say
pub file-checked : {A : Type 0} (o : Options) (d : Dtype) (c : Rows) (answer : Result A WriteError) → IsTable d c → RowsAnswer o d (c ∷ []) answer → Checked answer (file_checks o d c)
file-checked o d c answer t h =
    then-checked answer (begin_checks o d) (push_checks o d [] c >>= λ _. end_checks o d (c ∷ [])) (ChunksAnswer o d [] (c ∷ []) answer)
    (λ k. then-checked answer (push_checks o d [] c) (end_checks o d (c ∷ [])) (ChunksAnswer o d (c ∷ []) [] answer) (λ l. l) (k.2 (is_chunk d c t) (subst (λ n. n < 2 ^ 64) (from-zero (rows_len c)) t.few))) h

pub whole-file : (checks : Result Parts WriteError) → IsOk checks → refusal_in checks ≡ None
whole-file (Ok parts) h = refl
whole-file (Err e) h = absurd cc

pub refused-file : (e : WriteError) (checks : Result Parts WriteError) → checks ≡ Err e → refusal_in checks ≡ Some e
refused-file e checks h = ap refusal_in h

-- ---- what stands on the sink

within : (o : Options) (d : Dtype) (past : List Rows) (checks : Result Parts WriteError) (before now : Option (List ℕ)) → TookPrefix (sent o d past) before now → TookPrefix (whole o d past checks) before now
within o d past (Ok parts) before now h = took-first (chunks_sent o d past) _ before now (took-first (sent o d past) _ before now h)
within o d past (Err e) before now h = took-first (sent o d past) _ before now h

-- a part of a file of one chunk is a front of it
file-prefix : (o : Options) (d : Dtype) (c : Rows) (before now : SinkState) → CutShort o d (c ∷ []) before.gained now → TookPrefix (written o d (c ∷ [])) before.gained now.gained
file-prefix o d c before now h = at h.front h.rest h.split h.took
  where
    at : (front rest : List Rows) → c ∷ [] ≡ front ++ rest
        → TookPrefix (sent o d (pushes [] front)) before.gained now.gained ⊎ TookPrefix (written o d (pushes [] (c ∷ []))) before.gained now.gained → TookPrefix (written o d (c ∷ [])) before.gained now.gained
    at front rest s (inr k) = k
    at [] rest s (inl k) = took-first [] (written o d (c ∷ [])) before.gained now.gained k
    at (x ∷ []) rest s (inl k) = let same : x ≡ c = cc in
        subst (λ y. TookPrefix (written o d (y ∷ [])) before.gained now.gained) same (within o d (x ∷ []) (end_checks o d (x ∷ [])) before.gained now.gained k)
    at (x ∷ y ∷ zs) rest s (inl k) = absurd cc

-- ---- what writing answers and leaves

module _ (f : RowsFile) (before now : SinkState) (t : IsTable f.table.dtype f.table.rows) where
  abbrev o : Options
  o = options_of f.arguments

  abbrev checks : Result Parts WriteError
  checks = file_checks o f.table.dtype f.table.rows

  refused : (e : WriteError) → RowsAnswer {A = WriteSummary} o f.table.dtype (f.table.rows ∷ []) (Err e) → (e ≡ write_error.WriteFault → ⊥) → (e ≡ write_error.OutOfMemory → ⊥) → refusal_in checks ≡ Some e
  refused e h a b = refused-file e checks (file-checked {A = WriteSummary} o f.table.dtype f.table.rows (Err e) t h a b)

  pub writes-file : (result : Result WriteSummary WriteError) → RowsAnswer o f.table.dtype (f.table.rows ∷ []) result → RowsLeave o f.table.dtype (f.table.rows ∷ []) before now result
      → SinkCause before now result → IfOk result (λ s. OpensAgain o f.table.dtype (f.table.rows ∷ []) (content_read s.footer.content)) → WritesFile f before now (told result)
  writes-file (Ok summary) h l c p = (l.took, l.flushed, whole-file checks (file-checked o f.table.dtype f.table.rows (Ok summary) t h), (content_read summary.footer.content, p))
  writes-file (Err write_error.WriteFault) h l c p = (file-prefix o f.table.dtype f.table.rows before now l, c.fault refl)
  writes-file (Err write_error.OutOfMemory) h l c p = file-prefix o f.table.dtype f.table.rows before now l
  writes-file (Err write_error.TooManyMetadata) h l c p = (file-prefix o f.table.dtype f.table.rows before now l, refused write_error.TooManyMetadata h (λ k. cc) (λ k. cc))
  writes-file (Err write_error.EmptyKey) h l c p = (file-prefix o f.table.dtype f.table.rows before now l, refused write_error.EmptyKey h (λ k. cc) (λ k. cc))
  writes-file (Err write_error.LongKey) h l c p = (file-prefix o f.table.dtype f.table.rows before now l, refused write_error.LongKey h (λ k. cc) (λ k. cc))
  writes-file (Err write_error.NotPermitted) h l c p = (file-prefix o f.table.dtype f.table.rows before now l, refused write_error.NotPermitted h (λ k. cc) (λ k. cc))
  writes-file (Err write_error.TooDeep) h l c p = (file-prefix o f.table.dtype f.table.rows before now l, refused write_error.TooDeep h (λ k. cc) (λ k. cc))
  writes-file (Err write_error.TooManyTables) h l c p = (file-prefix o f.table.dtype f.table.rows before now l, refused write_error.TooManyTables h (λ k. cc) (λ k. cc))
  writes-file (Err write_error.ChunkDType) h l c p = (file-prefix o f.table.dtype f.table.rows before now l, refused write_error.ChunkDType h (λ k. cc) (λ k. cc))
  writes-file (Err write_error.RowsOverflow) h l c p = (file-prefix o f.table.dtype f.table.rows before now l, refused write_error.RowsOverflow h (λ k. cc) (λ k. cc))
  writes-file (Err write_error.ChunkFault) h l c p = (file-prefix o f.table.dtype f.table.rows before now l, refused write_error.ChunkFault h (λ k. cc) (λ k. cc))
  writes-file (Err write_error.SegmentTooLong) h l c p = (file-prefix o f.table.dtype f.table.rows before now l, refused write_error.SegmentTooLong h (λ k. cc) (λ k. cc))
  writes-file (Err write_error.TooManySegments) h l c p = (file-prefix o f.table.dtype f.table.rows before now l, refused write_error.TooManySegments h (λ k. cc) (λ k. cc))
  writes-file (Err write_error.OffsetOverflow) h l c p = (file-prefix o f.table.dtype f.table.rows before now l, refused write_error.OffsetOverflow h (λ k. cc) (λ k. cc))
  writes-file (Err write_error.WriterFailed) h l c p = (file-prefix o f.table.dtype f.table.rows before now l, refused write_error.WriterFailed h (λ k. cc) (λ k. cc))
  writes-file (Err write_error.DuplicateKey) h l c p = (file-prefix o f.table.dtype f.table.rows before now l, refused write_error.DuplicateKey h (λ k. cc) (λ k. cc))

-- what is so of options, a type and chunks is so of those that are the same
pub carried : (P : Options → Dtype → List Rows → Type 0) (o p : Options) (d e : Dtype) (cs ds : List Rows) → o ≡ p → d ≡ e → cs ≡ ds → P o d cs → P p e ds
carried P o p d e cs ds a b c h = subst (P p e) c (subst (λ x. P p x cs) b (subst (λ x. P x d cs) a h))

-- nothing was written yet
pub nothing-written : (bytes : List ℕ) (before : Option (List ℕ)) → TookPrefix bytes before before
nothing-written bytes before = record { count = 0; took = nothing before }
  where
    nothing : (b : Option (List ℕ)) → Took [] b b
    nothing None = refl
    nothing (Some g) = ap (λ (x : List ℕ). Some x) (sym (append-nil g))
