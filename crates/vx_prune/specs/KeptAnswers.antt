-- Answers that a reader keeps by predicate.
use Rattle.std.specs.Prelude.{◌≡◌, ℕ, List}
use Rattle.std.specs.Coded.{Coded, coded_ℕ, coded_list, coded×}
use Rattle.vx_data.specs.Dtype.{Dtype}
use Rattle.vx_data.specs.Layout.{LayoutTree, dtype_of, rows_of}
use Rattle.vx_data.specs.Stats.{Stats}
use Rattle.vx_rows.specs.Bounds.{bound_view}
use Rattle.vx_footer.specs.DtypeCode.{dtype_code}
use Rattle.vx_footer.specs.FileStats.{FileStats}
use Rattle.vx_prune.specs.declared.kept_answers.KeptAnswer.{KeptAnswer}
use Rattle.vx_prune.specs.Never.{never}
use Rattle.vx_prune.specs.StatsCodes.{stats_code}
use Rattle.vx_prune.specs.Tags.{tag_of}

-- what an answer is about, beside its predicate: the type of the rows, their statistics and how many they are
abbrev pub About : Type 0
About = Dtype × (List Stats × ℕ)

abbrev pub about_code : Coded About
about_code = coded× dtype_code (coded× (coded_list stats_code) coded_ℕ)

abbrev pub about : LayoutTree → FileStats → About
about t s = (dtype_of t, (s.sets, rows_of t))

-- the rows that a tag names are those of a layout with statistics
abbrev pub tag_of_rows : LayoutTree → FileStats → List ℕ
tag_of_rows t s = tag_of about_code (about t s)

-- a kept answer is what the statistics of the rows that a tag names tell of its predicate
pub record IsAnswer (tag : List ℕ) (a : KeptAnswer) : Type 0 where
  pub rows : About
  pub named : tag_of about_code rows ≡ tag
  pub told : a.is_pruned ≡ never (bound_view a.bound).0 rows.0 rows.1.0 rows.1.1
