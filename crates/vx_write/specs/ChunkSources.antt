-- Sources of chunks of rows: what they tell, and what their calls answer and leave.
use Rattle.std.specs.Prelude.{◌≡◌, ◌≤◌, ℕ, Bool, true, false, List, [], ◌∷◌, ◌++◌, Option, Some, None, Result, Ok, Err, IfOk, OnErr, if◌then◌else◌}
use Rattle.std.proofs.Common.{◌∙◌, arith}
use Rattle.vx_base.specs.Counts.{Rises, next_count}
use Rattle.vx_base.specs.Memory.{is_failing, is_empty, faults_after}
use Rattle.vx_rows.specs.Rows.{Rows, column_view}
use Rattle.vx_rows.specs.declared.column.Column.{Column}
use Rattle.vx_write.specs.declared.chunk_source.ChunkError.{ChunkError}
use Rattle.vx_write.specs.declared.chunk_source.ChunkError.TheVariants as chunk_error

-- A source: the chunks still to come, where they are told; whether no call of it fails; its count of faults.
pub record ChunkState : Type 0 where
  pub rest : Option (List Rows)
  pub never_fails : Bool
  pub faults : ℕ

pub record SameChunks (before now : ChunkState) : Type 0 where
  pub never_fails : now.never_fails ≡ before.never_fails
  pub never_falls : before.faults ≤ now.faults
  pub sound : before.never_fails ≡ true → now.faults ≡ before.faults

pub same_chunks-then : (a b c : ChunkState) → SameChunks a b → SameChunks b c → SameChunks a c
same_chunks-then a b c h k = record {
  never_fails = k.never_fails ∙ h.never_fails;
  never_falls = omega (arith, h.never_falls, k.never_falls);
  sound = λ sound. k.sound (h.never_fails ∙ sound) ∙ h.sound sound;
}

-- the next chunk is the first of those to come, and none is the end
abbrev pub Comes : Option Column → List Rows → Option (List Rows) → Type 0
Comes None all now = (all ≡ []) × (now ≡ Some [])
Comes (Some c) all now = (rest : List Rows) × (all ≡ column_view c ∷ rest) × (now ≡ Some rest)

pub record ChunkCause (before now : ChunkState) (result : Result (Option Column) ChunkError) : Type 0 where
  pub told : IfOk result (λ chunk. (all : List Rows) → before.rest ≡ Some all → Comes chunk all now.rest)
  pub kept : OnErr result (now.rest ≡ before.rest)
  pub failed : result ≡ Err chunk_error.Failed → Rises 1 before.faults now.faults
  pub sound : before.never_fails ≡ true → result ≡ Err chunk_error.Failed → ⊥

-- ---- chunks in memory: those still to come, the places of calls that fail, how many calls there were, and how many failed

pub record VecChunksState : Type 0 where
  pub rest : List Rows
  pub fail : List ℕ
  pub calls : ℕ
  pub faults : ℕ

abbrev pub chunks_state : VecChunksState → ChunkState
chunks_state s = record { rest = Some s.rest; never_fails = is_empty s.fail; faults = s.faults }

-- ---- what came

-- these chunks came
pub record Came (given : List Rows) (before now : ChunkState) : Type 0 where
  pub told : (all : List Rows) → before.rest ≡ Some all → (rest : List Rows) × (all ≡ given ++ rest) × (now.rest ≡ Some rest)
  pub same : SameChunks before now
