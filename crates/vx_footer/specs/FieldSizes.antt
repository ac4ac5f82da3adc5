-- How many bytes each field of a file takes.
use Rattle.std.specs.Prelude.{◌≡◌, ℕ, ◌+◌, ◌==◌, ◌^◌, nat_le, Bool, true, false, ◌&&◌, ◌||◌, not, if◌then◌else◌}
use Rattle.std.specs.Prelude.{List, [], ◌∷◌, ◌++◌, length, map, take, Option, Some, None, Result, Ok, Err, find}
use Rattle.std.specs.List.{list_any, list_all}
use Rattle.std.specs.Str.{bytes_eq}
use Rattle.std.specs.List.Sorted.{IsStrictlySortedBy}
use Rattle.std.specs.Map.{lookup, keys_of}
use Rattle.std.specs.BTreeMap.{is_at}
use Rattle.vx_base.specs.declared.segment.SegmentSpec.{SegmentSpec}
use Rattle.vx_footer.specs.declared.sizes_error.SizesError.{SizesError}
use Rattle.vx_footer.specs.declared.sizes_error.SizesError.TheVariants.{MissingSegment, OutOfMemory}
use Rattle.vx_data.specs.declared.layout_kind.LayoutKind.{LayoutKind}
use Rattle.vx_data.specs.declared.layout_kind.LayoutKind.TheVariants.{Flat, Chunked, Struct}
use Rattle.vx_data.specs.Dtype.{Dtype, bool, int, text, struct, FieldList, no_fields, field}
use Rattle.vx_data.specs.Paths.{Path, path_cmp}
use Rattle.vx_data.specs.Layout.{LayoutTree, node, Layouts, no_layouts, a_layout}

-- a segment that a layout names, and the layout's path
pub record Reference : Type 0 where
  pub segment : ℕ
  pub path : Path

-- ---- the paths of a tree

-- what a child adds to its parent's path: a field its name, and chunks and the validity nothing
abbrev pub field_parts : FieldList → List Path
field_parts no_fields = []
field_parts (field n d fs) = (n ∷ []) ∷ field_parts fs

abbrev pub chunk_parts : Layouts → List Path
chunk_parts no_layouts = []
chunk_parts (a_layout t ts) = [] ∷ chunk_parts ts

abbrev pub validity_parts : Bool → List Path
validity_parts true = [] ∷ []
validity_parts false = []

abbrev pub struct_parts : Dtype → List Path
struct_parts (struct fs nullable) = validity_parts nullable ++ field_parts fs
struct_parts (bool nullable) = []
struct_parts (int ptype nullable) = []
struct_parts (text nullable) = []

abbrev pub child_parts : LayoutKind → Dtype → Layouts → List Path
child_parts Flat d ts = []
child_parts Chunked d ts = chunk_parts ts
child_parts Struct d ts = struct_parts d

abbrev mutual
  -- the path of each layout of a tree, in preorder
  pub paths_of : Path → LayoutTree → List Path
  paths_of path (node k d n s ts) = path ∷ paths_below path (child_parts k d ts) ts

  pub paths_below : Path → List Path → Layouts → List Path
  paths_below path parts no_layouts = []
  paths_below path [] (a_layout t ts) = []
  paths_below path (part ∷ parts) (a_layout t ts) = paths_of (path ++ part) t ++ paths_below path parts ts

abbrev pub references_at : Path → List ℕ → List Reference
references_at path ids = map (λ id. record { segment = id; path = path }) ids

abbrev mutual
  -- the segments that a tree names, in preorder
  pub references_of : Path → LayoutTree → List Reference
  references_of path (node k d n s ts) = references_at path s ++ references_below path (child_parts k d ts) ts

  pub references_below : Path → List Path → Layouts → List Reference
  references_below path parts no_layouts = []
  references_below path [] (a_layout t ts) = []
  references_below path (part ∷ parts) (a_layout t ts) = references_of (path ++ part) t ++ references_below path parts ts

-- ---- sizes

abbrev pub is_prefix : Path → Path → Bool
is_prefix [] q = true
is_prefix (a ∷ p) [] = false
is_prefix (a ∷ p) (b ∷ q) = bytes_eq a b && is_prefix p q

abbrev pub is_named : List Reference → ℕ → Bool
is_named refs id = list_any (λ r. r.segment == id) refs

-- a segment counts for a path where it is named, and each path that names it goes on from there
abbrev pub counts : List Reference → Path → ℕ → Bool
counts refs path id = is_named refs id && list_all (λ r. not (r.segment == id) || is_prefix path r.path) refs

-- the lengths of those that count, of segments whose numbers begin at one, each once
abbrev pub size_from : List Reference → Path → ℕ → List SegmentSpec → ℕ
size_from refs path id [] = 0
size_from refs path id (s ∷ ss) = (if counts refs path id then s.length else 0) + size_from refs path (id + 1) ss

-- numbers have 32 bits
abbrev pub named_segments : List SegmentSpec → List SegmentSpec
named_segments ss = take (2 ^ 32) ss

unfoldable pub size_of : LayoutTree → List SegmentSpec → Path → ℕ
size_of t ss path = size_from (references_of [] t) path 0 (named_segments ss)

-- the lengths of the segments that are named, each once
abbrev pub named_from : List Reference → ℕ → List SegmentSpec → ℕ
named_from refs id [] = 0
named_from refs id (s ∷ ss) = (if is_named refs id then s.length else 0) + named_from refs (id + 1) ss

abbrev pub named_length : LayoutTree → List SegmentSpec → ℕ
named_length t ss = named_from (references_of [] t) 0 (named_segments ss)

-- the first number that no segment has
abbrev pub missing : LayoutTree → List SegmentSpec → Option ℕ
missing t ss = find (λ id. nat_le (length ss) id) (map (λ r. r.segment) (references_of [] t))

-- the size that stands at a path
abbrev pub size_at : List (Path × ℕ) → Path → Option ℕ
size_at entries path = lookup (is_at (path_cmp path)) entries

-- the sizes by path, in the order of paths, and that of the whole
pub record SizeList : Type 0 where
  pub entries : List (Path × ℕ)
  pub total : ℕ

-- each path of the tree has its size, once, and no other path has any
pub record AreSizes (t : LayoutTree) (ss : List SegmentSpec) (sizes : SizeList) : Type 0 where
  pub by_path : (path : Path) → size_at sizes.entries path ≡ (if list_any (is_at (path_cmp path)) (paths_of [] t) then Some (size_of t ss path) else None)
  pub ordered : IsStrictlySortedBy path_cmp (keys_of sizes.entries)
  pub whole : sizes.total ≡ size_of t ss []

-- the sizes, where each number that the tree names is that of a segment, or the first that is not. Want of memory tells nothing.
abbrev pub SizesGiven : LayoutTree → List SegmentSpec → Result SizeList SizesError → Type 0
SizesGiven t ss (Ok sizes) = (missing t ss ≡ None) × AreSizes t ss sizes
SizesGiven t ss (Err (MissingSegment id)) = missing t ss ≡ Some id.0
SizesGiven t ss (Err OutOfMemory) = Unit {0}

-- ---- a field and the fields below

-- the name by which a path goes on from another, where it has just one name more
abbrev pub next_name : Path → Path → Option (List ℕ)
next_name [] [] = None
next_name [] (n ∷ []) = Some n
next_name [] (n ∷ m ∷ q) = None
next_name (a ∷ p) [] = None
next_name (a ∷ p) (b ∷ q) = if bytes_eq a b then next_name p q else None

abbrev pub with_name : Option (List ℕ) → List (List ℕ) → List (List ℕ)
with_name None names = names
with_name (Some n) names = if list_any (bytes_eq n) names then names else n ∷ names

-- the names of the fields right below a path, each once
abbrev pub names_below : Path → List Path → List (List ℕ)
names_below path [] = []
names_below path (q ∷ qs) = with_name (next_name path q) (names_below path qs)

-- a path is the longest for a segment where it counts for the path and for no field below
abbrev pub is_own : List Reference → Path → List (List ℕ) → ℕ → Bool
is_own refs path names id = counts refs path id && not (list_any (λ n. counts refs (path ++ n ∷ []) id) names)

abbrev pub own_from : List Reference → Path → List (List ℕ) → ℕ → List SegmentSpec → ℕ
own_from refs path names id [] = 0
own_from refs path names id (s ∷ ss) = (if is_own refs path names id then s.length else 0) + own_from refs path names (id + 1) ss

-- the lengths of the segments whose longest common path it is, each once
abbrev pub own_length : LayoutTree → List SegmentSpec → Path → ℕ
own_length t ss path = own_from (references_of [] t) path (names_below path (paths_of [] t)) 0 (named_segments ss)
