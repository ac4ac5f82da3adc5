-- A file of rows that was written opens again, to the footer of its summary, and has the rows that were pushed.
use Rattle.std.specs.Prelude.{◌≡◌, ℕ, ◌+◌, ◌<◌, ◌≤◌, ◌^◌, true, false, List, [], ◌∷◌, slice_get, Option, Some, None, Ok}
use Rattle.std.specs.List.{AllByRecursion}
use Rattle.std.specs.Option.{option_map}
use Rattle.vx_base.specs.Buffer.{bytes_at}
use Rattle.vx_base.specs.declared.segment.SegmentSpec.{SegmentSpec}
use Rattle.vx_data.specs.Dtype.{Dtype}
use Rattle.vx_footer.specs.Footers.{FooterContent, segment_table}
use Rattle.vx_footer.specs.Opening.{vx_grammar}
use Rattle.vx_footer.specs.ReadAgain.{IsValue}
use Rattle.vx_footer.specs.Serializing.{are_distinct}
use Rattle.vx_rows.specs.LayoutRows.{rows_of}
use Rattle.vx_rows.specs.Rows.{Rows, rows_len}
use Rattle.vx_write.specs.Options.{Options, keys_of}
use Rattle.vx_write.specs.Strategies.{HasBlocks, AllHaveBlocks}
use Rattle.vx_write.specs.Written.{written, rows_after, count_after, push_checks, IsChunk}

-- options as every program has them
pub record AreTold (o : Options) : Type 0 where
  pub blocks : HasBlocks o.strategy.default
  pub rules : AllHaveBlocks o.strategy.rules
  pub aligned : o.strategy.alignment ≤ 16
  pub values : AllByRecursion IsValue o.metadata
  pub distinct : are_distinct (keys_of o.metadata) ≡ true

-- chunks of which none was refused, newest first
abbrev pub Accepted : Options → Dtype → List Rows → Type 0
Accepted o d [] = Unit {0}
Accepted o d (c ∷ past) =
    Accepted o d past × IsChunk d c × (count_after past + rows_len c < 2 ^ 64) × (push_checks o d past c ≡ Ok tt)

-- the bytes of the segment of a number
abbrev pub slices : List ℕ → List SegmentSpec → ℕ → Option (List ℕ)
slices file specs number = option_map (λ s. bytes_at file s.offset s.length) (slice_get specs number)

-- the file of chunks opens to a footer, where the type is supplied or was written, and has the rows of the chunks
pub record OpensAgain (o : Options) (d : Dtype) (past : List Rows) (f : FooterContent) : Type 0 where
  pub supplied : vx_grammar (written o d past) (Some d) ≡ Ok f
  pub alone : o.excludes_dtype ≡ false → vx_grammar (written o d past) None ≡ Ok f
  pub rows : rows_of (slices (written o d past) (segment_table f)) f.array_ids f.layout ≡ Some (rows_after d past)
