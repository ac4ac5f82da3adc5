-- Whether a file can be skipped, since no row of it satisfies a predicate.
use Rattle.std.specs.Prelude.{◌≡◌, ℕ, Bool, false, List, Option, Some, None, Result, Ok}
use Rattle.vx_base.specs.Checks.{◌>>=◌}
use Rattle.vx_data.specs.Dtype.{Dtype, bool, int, text, struct}
use Rattle.vx_data.specs.Layout.{dtype_of, rows_of}
use Rattle.vx_data.specs.Stats.{Stats}
use Rattle.vx_footer.specs.FileStats.{FileStats}
use Rattle.vx_footer.specs.Footers.{FooterContent}
use Rattle.vx_rows.specs.declared.bind_error.BindError.{BindError}
use Rattle.vx_rows.specs.Binding.{bound}
use Rattle.vx_rows.specs.Predicates.{Pred}
use Rattle.vx_prune.specs.Never.{never}
use Rattle.vx_prune.specs.Pruning.{Prunes}

-- what pruning rows of a type tells, by their statistics
abbrev pub judged_by : Pred → Dtype → List Stats → ℕ → Result Bool BindError
judged_by p d ss rows = bound p d >>= λ _. Ok (never p d ss rows)

-- the predicate is looked at where the rows are structs and there are statistics; no other file is skipped
abbrev pub pruned_by : Dtype → Option FileStats → Pred → ℕ → Result Bool BindError
pruned_by (struct fs nullable) (Some stats) p rows = judged_by p (struct fs nullable) stats.sets rows
pruned_by (struct fs nullable) None p rows = Ok false
pruned_by (bool nullable) stats p rows = Ok false
pruned_by (int ptype nullable) stats p rows = Ok false
pruned_by (text nullable) stats p rows = Ok false

abbrev pub pruned : Pred → FooterContent → Result Bool BindError
pruned p f = pruned_by (dtype_of f.layout) f.statistics p (rows_of f.layout)

-- no row satisfies the predicate, where the statistics are true of the rows and the row count is right
abbrev pub SkipsBy : Pred → Dtype → Option FileStats → ℕ → Type 0
SkipsBy p d o rows = (stats : FileStats) → o ≡ Some stats → Prunes p d stats.sets rows

abbrev pub Skips : Pred → FooterContent → Type 0
Skips p f = SkipsBy p (dtype_of f.layout) f.statistics (rows_of f.layout)
