-- The postscript as it is written, with the checks on its metadata. What is written is short.
use Rattle.std.specs.Prelude.{◌≡◌, ℕ, ◌<◌, ◌≤◌, ◌^◌, true, not, ◌==◌, nat_le, List, [], ◌∷◌, ◌++◌, length, map, Option, Some, None, Result, Ok, Err, IfSome}
use Rattle.std.specs.List.{AllByRecursion}
use Rattle.std.specs.Str.{is_utf8}
use Rattle.vx_base.specs.Checks.{◌>>=◌, ◌unless◌}
use Rattle.vx_tables.specs.Block.{Piece, text, table, tables, root_bytes}
use Rattle.vx_footer.specs.declared.version.FileVersion.{FileVersion}
use Rattle.vx_footer.specs.declared.postscript.Postscript.{Postscript}
use Rattle.vx_footer.specs.declared.postscript.PostscriptSegment.{PostscriptSegment}
use Rattle.vx_footer.specs.declared.postscript.PostscriptMetadata.{PostscriptMetadata}
use Rattle.vx_footer.specs.declared.write_error.WriteError.{WriteError}
use Rattle.vx_footer.specs.declared.write_error.WriteError.TheVariants.{TooManyMetadata, EmptyKey, LongKey, DuplicateKey, OutOfMemory}
use Rattle.vx_footer.specs.Opening.{most_entries, longest_key, has_key}
use Rattle.vx_footer.specs.Serialized.{place_pieces}

-- ---- pieces, in order of slot

abbrev pub locator_pieces : ℕ → Option PostscriptSegment → List Piece
locator_pieces slot None = []
locator_pieces slot (Some s) = table slot (place_pieces s) ∷ []

unfoldable pub entry_pieces : PostscriptMetadata → List Piece
entry_pieces m = text 0 m.key ∷ table 1 (place_pieces m.segment) ∷ []

-- metadata is written where there is some
abbrev pub metadata_pieces : List PostscriptMetadata → List Piece
metadata_pieces [] = []
metadata_pieces (m ∷ ms) = tables 4 (map entry_pieces (m ∷ ms)) ∷ []

abbrev pub postscript_pieces : Postscript → List Piece
postscript_pieces p =
    (((locator_pieces 0 p.dtype ++ table 1 (place_pieces p.layout) ∷ []) ++ locator_pieces 2 p.statistics)
    ++ table 3 (place_pieces p.footer) ∷ []) ++ metadata_pieces p.metadata

unfoldable pub postscript_root : Postscript → List ℕ
postscript_root p = root_bytes (postscript_pieces p)

-- ---- checks

-- a key behind those of earlier entries
unfoldable pub key_checks : FileVersion → List PostscriptMetadata → List ℕ → Result (Unit {0}) WriteError
key_checks version earlier key = do
  _ ← EmptyKey unless not (length key == 0)
  _ ← LongKey unless nat_le (length key) (longest_key version)
  DuplicateKey unless not (has_key earlier key)

-- the keys of entries behind others, in order
unfoldable pub keys_checks : FileVersion → List PostscriptMetadata → List PostscriptMetadata → Result (Unit {0}) WriteError
keys_checks version earlier [] = Ok tt
keys_checks version earlier (m ∷ ms) = key_checks version earlier m.key >>= λ _. keys_checks version (earlier ++ m ∷ []) ms

unfoldable pub postscript_written : FileVersion → Postscript → Result (List ℕ) WriteError
postscript_written version p = do
  _ ← TooManyMetadata unless nat_le (length p.metadata) (most_entries version)
  _ ← keys_checks version [] p.metadata
  Ok (postscript_root p)

-- what an error tells: it is what the definition gives, unless memory ran out
abbrev pub FailsToWrite : {A : Type 0} → WriteError → Result A WriteError → Type 0
FailsToWrite OutOfMemory answer = Unit {0}
FailsToWrite e answer = answer ≡ Err e

-- ---- what is read back

-- numbers of a segment within their widths
pub record IsNarrow (s : PostscriptSegment) : Type 0 where
  pub offset : s.offset < 2 ^ 64
  pub size : s.length < 2 ^ 32
  pub exponent : s.alignment ≤ 16

-- an entry whose key is a text
pub record IsEntry (m : PostscriptMetadata) : Type 0 where
  pub text : is_utf8 m.key ≡ true
  pub segment : IsNarrow m.segment

-- as every postscript of a program is
pub record IsSpelled (p : Postscript) : Type 0 where
  pub dtype : IfSome p.dtype IsNarrow
  pub layout : IsNarrow p.layout
  pub statistics : IfSome p.statistics IsNarrow
  pub footer : IsNarrow p.footer
  pub metadata : AllByRecursion IsEntry p.metadata
