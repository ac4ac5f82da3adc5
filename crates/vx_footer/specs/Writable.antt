-- Which footers are read back from the file that they end.
use Rattle.std.specs.Prelude.{ℕ, ◌≡◌, ◌≤◌, ◌<◌, ◌+◌, ◌^◌, [], ◌∷◌, length}
use Rattle.vx_base.specs.declared.segment.SegmentSpec.{SegmentSpec}
use Rattle.vx_tables.specs.Standing.{AreUtf8}
use Rattle.vx_data.specs.DtypeWritten.{HasTexts, levels_of, visits_of}
use Rattle.vx_footer.specs.Footers.{FooterContent}
use Rattle.vx_footer.specs.Serialized.{IsFlat}

-- one flat layout of a dtype that can be read, at most 16 ids of arrays, each a text, and one segment, which ends within a file of this size
pub record IsWritable (size : ℕ) (f : FooterContent) : Type 0 where
  pub flat : IsFlat f
  pub names : HasTexts flat.rows_dtype
  pub shallow : levels_of flat.rows_dtype ≤ 64
  pub visits : visits_of flat.rows_dtype ≤ 1000000
  pub few : length f.array_ids ≤ 16
  pub texts : AreUtf8 f.array_ids
  pub rows : flat.rows < 2 ^ 64
  pub number : flat.segment < 2 ^ 32
  pub segment : SegmentSpec
  pub only : f.segments ≡ segment ∷ []
  pub start : segment.offset < 2 ^ 64
  pub short : segment.length < 2 ^ 32
  pub aligned : segment.alignment ≤ 16
  pub inside : segment.offset + segment.length ≤ size
