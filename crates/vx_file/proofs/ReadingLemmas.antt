-- Layouts that are read child by child, and the first flat layout that fails.
use Rattle.std.proofs.Common.{◌≡◌, ℕ, zero, suc, ◌+◌, ◌<◌, ◌≤◌, Bool, true, false, List, [], ◌∷◌, ◌++◌, length, map, Option, Some, None, Result, Err, refl, ap, sym, ◌∙◌, subst, inl, inr, append_assoc, arith, get_or, drop, add-one, drop-cons}
use Rattle.std.specs.Prelude.{OnOk, is_some, sum_by, replicate, ◌==◌, ◌&&◌}
use Rattle.std.specs.List.{list_all, AllByRecursion}
use Rattle.std.specs.Option.{option_map, option_and_then}
use Rattle.std.proofs.lemmas.List.{append-nil, drop_all}
use Rattle.std.proofs.lemmas.Option.{slice_get-get_or}
use Rattle.std.proofs.lemmas.List.Sums.{sum_by-cons}
use Rattle.vx_rows.proofs.ColumnLaws.{rows_are, column_rows}
use Rattle.vx_file.proofs.JoiningLemmas.{IsJoined}
use Rattle.vx_data.specs.declared.layout_kind.LayoutKind.{LayoutKind}
use Rattle.vx_data.specs.declared.layout_kind.LayoutKind.TheVariants.{Flat, Chunked, Struct}
use Rattle.vx_data.specs.Dtype.{Dtype, bool, int, text, struct}
use Rattle.vx_data.specs.Layout.{LayoutTree, Layouts, node, no_layouts, a_layout, layouts_of, kind_of, segments_of, children_of, child_dtypes, has_shape, rows_sum, tree_size, trees_size, Fits, dtype_of as type_of_tree, rows_of as tree_rows}
use Rattle.vx_rows.specs.LayoutRows.{rows_of, rows_of_all, flat_rows, node_rows, joined}
use Rattle.vx_rows.specs.Trees.{array}
use Rattle.vx_rows.specs.declared.array_error.ArrayError.{ArrayError}
use Rattle.vx_rows.specs.Rows.{Rows, dtype_of, rows_len, IsColumn}
use Rattle.vx_base.specs.Buffer.{Buffer, bytes_at}
use Rattle.vx_base.specs.Counts.{Rises}
use Rattle.vx_base.specs.declared.segment.SegmentSpec.{SegmentSpec}
use Rattle.vx_source.specs.declared.segment_source.SourceError.{SourceError}
use Rattle.vx_source.specs.Bytes.{IsSlice}
use Rattle.vx_source.specs.Sources.{SourceState, SameSource, SegmentCause}
use Rattle.vx_file.specs.declared.scan_error.ScanError.{ScanError}
use Rattle.vx_file.specs.declared.scan_error.ScanError.TheVariants.{Segment, BadArray, UnknownEncoding, OutOfMemory}
use Rattle.vx_file.specs.Scans.{FlatLayout, flats_of, flats_of_all, bytes_in, array_in, DecodeFails, CanBeRead, FailsAt, FirstFails, ScanFails, IsRead, AreRead, NamesFirst, SourceFails, IsOf, AreParts, structs_over, has_rows}

-- ---- the first that fails

module _ (R F : FlatLayout → Type 0) where
  pub first_front : (xs ys : List FlatLayout) → FirstFails R F xs → FirstFails R F (xs ++ ys)
  first_front [] ys h = absurd h
  first_front (x ∷ xs) ys (inl f) = inl f
  first_front (x ∷ xs) ys (inr r) = inr (r.0, first_front xs ys r.1)

  pub first_behind : (xs ys : List FlatLayout) → AllByRecursion R xs → FirstFails R F ys → FirstFails R F (xs ++ ys)
  first_behind [] ys r h = h
  first_behind (x ∷ xs) ys r h = inr (r.0, first_behind xs ys r.1 h)

pub first_map : (R F G : FlatLayout → Type 0) (xs : List FlatLayout) → ((f : FlatLayout) → F f → G f) → FirstFails R F xs → FirstFails R G xs
first_map R F G [] m h = absurd h
first_map R F G (x ∷ xs) m (inl f) = inl (m x f)
first_map R F G (x ∷ xs) m (inr r) = inr (r.0, first_map R F G xs m r.1)

all-both : (R : FlatLayout → Type 0) (xs ys : List FlatLayout) → AllByRecursion R xs → AllByRecursion R ys → AllByRecursion R (xs ++ ys)
all-both R [] ys h g = g
all-both R (x ∷ xs) ys h g = (h.0, all-both R xs ys h.1 g)

-- ---- a layout that was read

then-some : {A B : Type 0} → (f : A → Option B) (o : Option A) (y : B) → option_and_then f o ≡ Some y → (x : A) × (o ≡ Some x) × (f x ≡ Some y)
then-some f None y e = absurd (none e)
  where
    none : None ≡ Some y → ⊥
    none e = cc
then-some f (Some x) y e = (x, refl, e)

map-some : {A B : Type 0} → (f : A → B) (o : Option A) (y : B) → option_map f o ≡ Some y → (x : A) × (o ≡ Some x)
map-some f None y e = absurd (none e)
  where
    none : None ≡ Some y → ⊥
    none e = cc
map-some f (Some x) y e = (x, refl)

module _ (bytes : ℕ → Option (List ℕ)) (ids : List (List ℕ)) where
  flat-read : (d : Dtype) (n : ℕ) (segments : List ℕ) (c : Rows) → flat_rows bytes ids d n segments ≡ Some c → AllByRecursion (CanBeRead bytes ids) (map (λ s. record { dtype = d; rows = n; segment = s }) segments)
  flat-read d n [] c e = tt
  flat-read d n (s ∷ []) c e = (ap is_some e, tt)
  flat-read d n (s ∷ t ∷ ss) c e = absurd (none e)
    where
      none : ◌≡◌ {A = Option Rows} None (Some c) → ⊥
      none e = cc

  mutual
    pub all_read : (t : LayoutTree) (c : Rows) → rows_of bytes ids t ≡ Some c → AllByRecursion (CanBeRead bytes ids) (flats_of t)
    all_read (node Flat d n segments ts) c e =
        flat-read d n segments c (then-some (node_rows bytes ids Flat d n segments) (rows_of_all bytes ids ts) c e).2
    all_read (node Chunked d n segments ts) c e =
        let x = then-some (node_rows bytes ids Chunked d n segments) (rows_of_all bytes ids ts) c e in all_read_all ts x.0 x.1
    all_read (node Struct d n segments ts) c e =
        let x = then-some (node_rows bytes ids Struct d n segments) (rows_of_all bytes ids ts) c e in all_read_all ts x.0 x.1

    pub all_read_all : (ts : Layouts) (cs : List Rows) → rows_of_all bytes ids ts ≡ Some cs → AllByRecursion (CanBeRead bytes ids) (flats_of_all ts)
    all_read_all no_layouts cs e = tt
    all_read_all (a_layout t ts) cs e =
        let x = then-some (λ c. option_map (λ cs. c ∷ cs) (rows_of_all bytes ids ts)) (rows_of bytes ids t) cs e in
        let y = map-some (λ cs. x.0 ∷ cs) (rows_of_all bytes ids ts) cs x.2 in
        all-both (CanBeRead bytes ids) (flats_of t) (flats_of_all ts) (all_read t x.0 x.1) (all_read_all ts y.0 y.1)

  -- ---- a layout over its children

  pub flat_is : (t : LayoutTree) (s : ℕ) (c : Rows) → kind_of t ≡ Flat → segments_of t ≡ s ∷ [] → children_of t ≡ no_layouts
      → flat_rows bytes ids (type_of_tree t) (tree_rows t) (s ∷ []) ≡ Some c → rows_of bytes ids t ≡ Some c
  flat_is (node k d n segments ts) s c e f g h = rw (e, f, g) h

  pub chunked_is : (t : LayoutTree) (cs : List Rows) (c : Rows) → kind_of t ≡ Chunked → rows_of_all bytes ids (children_of t) ≡ Some cs → c ≡ joined (type_of_tree t) cs → rows_of bytes ids t ≡ Some c
  chunked_is (node k d n segments ts) cs c e f h = rw (e, f) (sym (ap Some h))

  struct-node : (d : Dtype) (n : ℕ) (segments : List ℕ) (cs : List Rows) → node_rows bytes ids Struct d n segments cs ≡ structs_over d n cs
  struct-node (struct fs nullable) n segments cs = refl
  struct-node (bool nullable) n segments cs = refl
  struct-node (int p nullable) n segments cs = refl
  struct-node (text nullable) n segments cs = refl

  pub struct_is : (t : LayoutTree) (cs : List Rows) (c : Rows) → kind_of t ≡ Struct → rows_of_all bytes ids (children_of t) ≡ Some cs → structs_over (type_of_tree t) (tree_rows t) cs ≡ Some c → rows_of bytes ids t ≡ Some c
  struct_is (node k d n segments ts) cs c e f h = rw (e, f) (struct-node d n segments cs ∙ h)

  -- one layout more
  pub more_read : (t : LayoutTree) (ts : Layouts) (c : Rows) (cs : List Rows) → rows_of bytes ids t ≡ Some c → rows_of_all bytes ids ts ≡ Some cs → rows_of_all bytes ids (a_layout t ts) ≡ Some (c ∷ cs)
  more_read t ts c cs e f = rw (e, f) refl

pub flats_flat : (t : LayoutTree) (s : ℕ) → kind_of t ≡ Flat → segments_of t ≡ s ∷ [] → flats_of t ≡ record { dtype = type_of_tree t; rows = tree_rows t; segment = s } ∷ []
flats_flat (node k d n segments ts) s e f = rw (e, f) refl

pub flats_chunked : (t : LayoutTree) → kind_of t ≡ Chunked → flats_of t ≡ flats_of_all (children_of t)
flats_chunked (node k d n segments ts) e = rw e refl

pub flats_struct : (t : LayoutTree) → kind_of t ≡ Struct → flats_of t ≡ flats_of_all (children_of t)
flats_struct (node k d n segments ts) e = rw e refl

-- ---- the columns of children

-- each column is one of its layout
abbrev pub AreOf : Layouts → List Rows → Type 0
AreOf no_layouts [] = Unit {0}
AreOf no_layouts (c ∷ cs) = ⊥
AreOf (a_layout t ts) [] = ⊥
AreOf (a_layout t ts) (c ∷ cs) = IsOf t c × AreOf ts cs

some-same : {A : Type 0} → (x y : A) → Some x ≡ Some y → x ≡ y
some-same x y e = cc

and-rest : (a b : Bool) → (a && b) ≡ true → b ≡ true
and-rest true b h = h
and-rest false b h = cc

len-of : (t : LayoutTree) (c : Rows) → IsOf t c → rows_len c ≡ tree_rows t
len-of t c h = rows_are (tree_rows t) c (column_rows (tree_rows t) c h.1)

types-of : (ts : List LayoutTree) (cs : List Rows) → AreOf (layouts_of ts) cs → map type_of_tree ts ≡ map dtype_of cs
types-of [] [] h = refl
types-of [] (c ∷ cs) h = absurd h
types-of (t ∷ ts) [] h = absurd h
types-of (t ∷ ts) (c ∷ cs) h = ap (λ d. d ∷ map type_of_tree ts) (sym h.0.0) ∙ ap (λ ds. dtype_of c ∷ ds) (types-of ts cs h.1)

as-many : (ts : List LayoutTree) (cs : List Rows) → AreOf (layouts_of ts) cs → length ts ≡ length cs
as-many [] [] h = refl
as-many [] (c ∷ cs) h = absurd h
as-many (t ∷ ts) [] h = absurd h
as-many (t ∷ ts) (c ∷ cs) h = ap suc (as-many ts cs h.1)

sums-of : (ts : List LayoutTree) (cs : List Rows) → AreOf (layouts_of ts) cs → rows_sum ts ≡ sum_by rows_len cs
sums-of [] [] h = refl
sums-of [] (c ∷ cs) h = absurd h
sums-of (t ∷ ts) [] h = absurd h
sums-of (t ∷ ts) (c ∷ cs) h =
    sum_by-cons tree_rows t ts ∙ ap (λ n. n + rows_sum ts) (sym (len-of t c h.0)) ∙ ap (λ n. rows_len c + n) (sums-of ts cs h.1) ∙ sym (sum_by-cons rows_len c cs)

long-all : (n : ℕ) (ts : List LayoutTree) (cs : List Rows) → AreOf (layouts_of ts) cs → list_all (λ t. n == tree_rows t) ts ≡ list_all (λ c. n == rows_len c) cs
long-all n [] [] h = refl
long-all n [] (c ∷ cs) h = absurd h
long-all n (t ∷ ts) [] h = absurd h
long-all n (t ∷ ts) (c ∷ cs) h =
    ap (λ m. (n == m) && list_all (λ t. n == tree_rows t) ts) (sym (len-of t c h.0)) ∙ ap (λ b. (n == rows_len c) && b) (long-all n ts cs h.1)

sound-all : (ts : List LayoutTree) (cs : List Rows) → AreOf (layouts_of ts) cs → AllByRecursion (λ c. IsColumn (rows_len c) c) cs
sound-all [] [] h = tt
sound-all [] (c ∷ cs) h = absurd h
sound-all (t ∷ ts) [] h = absurd h
sound-all (t ∷ ts) (c ∷ cs) h = (subst (λ n. IsColumn n c) (sym (len-of t c h.0)) h.0.1, sound-all ts cs h.1)

rows-all : (k : LayoutKind) (n : ℕ) (s : List ℕ) (ts : List LayoutTree) (cs : List Rows) → AreOf (layouts_of ts) cs → has_shape k n s ts ≡ true → has_rows k n cs ≡ true
rows-all Flat n s ts cs h e = refl
rows-all Chunked n s ts cs h e = ap (λ m. n == m) (sym (sums-of ts cs h)) ∙ and-rest (length s == 0) (n == rows_sum ts) e
rows-all Struct n s ts cs h e = sym (long-all n ts cs h) ∙ and-rest (length s == 0) (list_all (λ t. n == tree_rows t) ts) e

-- the columns of the children of a layout that fits
pub parts_are : (k : LayoutKind) (d : Dtype) (n : ℕ) (s : List ℕ) (ts : List LayoutTree) (cs : List Rows) → Fits k d n s ts → AreOf (layouts_of ts) cs → AreParts k d n cs
parts_are k d n s ts cs f h = record {
  dtypes = ap (child_dtypes k d) (sym (as-many ts cs h)) ∙ f.dtypes ∙ ap Some (types-of ts cs h);
  rows = rows-all k n s ts cs h f.shape;
  sound = sound-all ts cs h;
}

-- ---- sources

pub same_then : (a b c : SourceState) → SameSource a b → SameSource b c → SameSource a c
same_then a b c h g = record {
  table = g.table ∙ h.table;
  may_pass = g.may_pass ∙ h.may_pass;
  never_falls = omega (arith, h.never_falls, g.never_falls);
  cache_never_falls = omega (arith, h.cache_never_falls, g.cache_never_falls);
}

pub same_source : (a : SourceState) → SameSource a a
same_source a = record { table = refl; may_pass = refl; never_falls = omega arith; cache_never_falls = omega arith }

rises-earlier : (a b c : ℕ) → a ≤ b → Rises 1 b c → Rises 1 a c
rises-earlier a b c l r = record { later = omega (arith, l, r.later); risen = omega (arith, l, r.risen) }

-- what a source answers is told from an earlier moment too
cause-earlier : (s : ℕ) (a b c : SourceState) (found : Result Buffer SourceError) → SameSource a b → SegmentCause s b c found → SegmentCause s a c found
cause-earlier s a b c found h x = record {
  inside = subst (λ t. OnOk found (s < length t)) h.table x.inside;
  missing = λ e. subst (λ (t : List SegmentSpec). length t ≤ s) h.table (x.missing e);
  passes = λ e. let p = x.passes e in (sym h.may_pass ∙ p.0, subst (λ (t : List SegmentSpec). s < length t) h.table p.1);
  fault = λ f e. let p = x.fault f e in (rises-earlier a.faults b.faults c.faults h.never_falls p.0, subst (λ (t : List SegmentSpec). s < length t) h.table p.1);
  cache = λ e. let p = x.cache e in (rises-earlier a.cache_faults b.cache_faults c.cache_faults h.cache_never_falls p.0, subst (λ (t : List SegmentSpec). s < length t) h.table p.1);
}

pub source_earlier : (a b c : SourceState) (e : ScanError) → SameSource a b → SourceFails b c e → SourceFails a c e
source_earlier a b c (Segment id e) h x = (x.0, cause-earlier id.0 a b c (Err e) h x.1)
source_earlier a b c (BadArray id) h x = x
source_earlier a b c (UnknownEncoding id) h x = x
source_earlier a b c OutOfMemory h x = x

-- bytes that are not decoded are no fault of the source
pub decode_quiet : (a c : SourceState) (s : ℕ) (answer : Result Rows ArrayError) (e : ScanError) → DecodeFails s answer e → SourceFails a c e
decode_quiet a c s answer (Segment id e) h = absurd h
decode_quiet a c s answer (BadArray id) h = tt
decode_quiet a c s answer (UnknownEncoding id) h = tt
decode_quiet a c s answer OutOfMemory h = tt

module _ (bytes : ℕ → Option (List ℕ)) (ids : List (List ℕ)) where
  fails-earlier : (a b c : SourceState) (e : ScanError) (f : FlatLayout) → SameSource a b → FailsAt bytes ids b c e f → FailsAt bytes ids a c e f
  fails-earlier a b c (Segment id e) f h x = (x.0, x.1, cause-earlier f.segment a b c (Err e) h x.2)
  fails-earlier a b c (BadArray id) f h x = x
  fails-earlier a b c (UnknownEncoding id) f h x = x
  fails-earlier a b c OutOfMemory f h x = x

  scan-earlier : (a b c : SourceState) (fs : List FlatLayout) (e : ScanError) → SameSource a b → ScanFails bytes ids b c fs e → ScanFails bytes ids a c fs e
  scan-earlier a b c fs (Segment id e) h x =
      first_map (CanBeRead bytes ids) (FailsAt bytes ids b c (Segment id e)) (FailsAt bytes ids a c (Segment id e)) fs (λ f y. fails-earlier a b c (Segment id e) f h y) x
  scan-earlier a b c fs (BadArray id) h x = x
  scan-earlier a b c fs (UnknownEncoding id) h x = x
  scan-earlier a b c fs OutOfMemory h x = x

  scan-front : (a c : SourceState) (xs ys : List FlatLayout) (e : ScanError) → ScanFails bytes ids a c xs e → ScanFails bytes ids a c (xs ++ ys) e
  scan-front a c xs ys (Segment id e) h = first_front (CanBeRead bytes ids) (FailsAt bytes ids a c (Segment id e)) xs ys h
  scan-front a c xs ys (BadArray id) h = first_front (CanBeRead bytes ids) (FailsAt bytes ids a c (BadArray id)) xs ys h
  scan-front a c xs ys (UnknownEncoding id) h = first_front (CanBeRead bytes ids) (FailsAt bytes ids a c (UnknownEncoding id)) xs ys h
  scan-front a c xs ys OutOfMemory h = h

  scan-behind : (a c : SourceState) (xs ys : List FlatLayout) (e : ScanError) → AllByRecursion (CanBeRead bytes ids) xs → ScanFails bytes ids a c ys e → ScanFails bytes ids a c (xs ++ ys) e
  scan-behind a c xs ys (Segment id e) r h = first_behind (CanBeRead bytes ids) (FailsAt bytes ids a c (Segment id e)) xs ys r h
  scan-behind a c xs ys (BadArray id) r h = first_behind (CanBeRead bytes ids) (FailsAt bytes ids a c (BadArray id)) xs ys r h
  scan-behind a c xs ys (UnknownEncoding id) r h = first_behind (CanBeRead bytes ids) (FailsAt bytes ids a c (UnknownEncoding id)) xs ys r h
  scan-behind a c xs ys OutOfMemory r h = h

pub out_of_memory : (serves : List ℕ → Type 0) (a c : SourceState) (ids : List (List ℕ)) (fs : List FlatLayout) (e : ScanError) → OutOfMemory ≡ e → NamesFirst serves a c ids fs e
out_of_memory serves a c ids fs e h = λ file s. subst (ScanFails (bytes_in file a.table) ids a c fs) h tt

-- ---- child by child

-- the children in front are read, and those behind are to be
pub record Progress (serves : List ℕ → Type 0) (start now : SourceState) (ids : List (List ℕ)) (all rest : Layouts) (front : List Rows) : Type 0 where
  pub reads : (file : List ℕ) → serves file → (cs : List Rows) → rows_of_all (bytes_in file start.table) ids rest ≡ Some cs → rows_of_all (bytes_in file start.table) ids all ≡ Some (front ++ cs)
  pub fails : (file : List ℕ) → serves file → (next : SourceState) (e : ScanError) → ScanFails (bytes_in file start.table) ids start next (flats_of_all rest) e → ScanFails (bytes_in file start.table) ids start next (flats_of_all all) e
  pub parts : (cs : List Rows) → AreOf rest cs → AreOf all (front ++ cs)
  pub same : SameSource start now

pub progress_none : (serves : List ℕ → Type 0) (start : SourceState) (ids : List (List ℕ)) (all : Layouts) → Progress serves start start ids all all []
progress_none serves start ids all = record {
  reads = λ file s cs h. h;
  fails = λ file s next e h. h;
  parts = λ cs h. h;
  same = same_source start;
}

module _ (serves after : List ℕ → Type 0) (start now : SourceState) (ids : List (List ℕ)) (all : Layouts) (t : LayoutTree) (ts : Layouts) (front : List Rows)
    (p : Progress serves start now ids all (a_layout t ts) front) (onward : (file : List ℕ) → serves file → after file) where
  pub progress_more : (next : SourceState) (c : Rows) (now-front : List Rows) → IsRead after now ids t c → IsOf t c → SameSource now next → now-front ≡ front ++ c ∷ []
      → Progress serves start next ids all ts now-front
  progress_more next c now-front read of same more =
      let one : (file : List ℕ) → serves file → rows_of (bytes_in file start.table) ids t ≡ Some c =
      λ file s. subst (λ table. rows_of (bytes_in file table) ids t ≡ Some c) p.same.table (read file (onward file s)) in
      subst (Progress serves start next ids all ts) (sym more) (record {
        reads = λ file s cs h. p.reads file s (c ∷ cs) (more_read (bytes_in file start.table) ids t ts c cs (one file s) h) ∙ ap Some (sym (append_assoc front (c ∷ []) cs));
        fails = λ file s later e h. p.fails file s later e (scan-behind (bytes_in file start.table) ids start later (flats_of t) (flats_of_all ts) e (all_read (bytes_in file start.table) ids t c (one file s)) h);
        parts = λ cs h. subst (AreOf all) (sym (append_assoc front (c ∷ []) cs)) (p.parts (c ∷ cs) (of, h));
        same = same_then start now next p.same same;
      })

  pub progress_fails : (next : SourceState) (e : ScanError) → NamesFirst after now next ids (flats_of t) e → NamesFirst serves start next ids (flats_of_all all) e
  progress_fails next e h = λ file s.
      let bytes = bytes_in file start.table in
      p.fails file s next e (scan-front bytes ids start next (flats_of t) (flats_of_all ts) e
      (scan-earlier bytes ids start now next (flats_of t) e p.same (subst (λ table. ScanFails (bytes_in file table) ids now next (flats_of t) e) p.same.table (h file (onward file s)))))

pub progress_reads : (serves : List ℕ → Type 0) (start now : SourceState) (ids : List (List ℕ)) (all : Layouts) (front : List Rows) → Progress serves start now ids all no_layouts front → AreRead serves start ids all front
progress_reads serves start now ids all front p = λ file s. p.reads file s [] refl ∙ ap Some (append-nil front)

pub progress_parts : (serves : List ℕ → Type 0) (start now : SourceState) (ids : List (List ℕ)) (all : Layouts) (front : List Rows) → Progress serves start now ids all no_layouts front → AreOf all front
progress_parts serves start now ids all front p = subst (AreOf all) (append-nil front) (p.parts [] tt)

-- ---- the next child of some

pub next_child : (ts : List LayoutTree) (i : ℕ) (t : LayoutTree) → i < length ts → t ≡ get_or ts i t → layouts_of (drop i ts) ≡ a_layout t (layouts_of (drop (i + 1) ts))
next_child ts i t l is = ap layouts_of (let next : drop i ts ≡ t ∷ drop (i + 1) ts = rw (add-one, drop-cons ts i t, ← is) refl in next)

pub no_child : (ts : List LayoutTree) (i : ℕ) → length ts ≤ i → layouts_of (drop i ts) ≡ no_layouts
no_child ts i l = ap layouts_of (drop_all i ts l)

child-below : (ts : List LayoutTree) (i : ℕ) (t : LayoutTree) → i < length ts → t ≡ get_or ts i t → tree_size t ≤ trees_size (layouts_of ts)
child-below [] i t l is = absurd (omega (arith, l))
child-below (x ∷ ts) zero t l is = let e = ap tree_size is in omega (arith, e)
child-below (x ∷ ts) (suc i) t l is = let below = child-below ts i t (omega (arith, l)) is in omega (arith, below)

pub child_smaller : (a : LayoutTree) (ts : List LayoutTree) (i : ℕ) (t : LayoutTree) → layouts_of ts ≡ children_of a → i < length ts → t ≡ get_or ts i t → tree_size t < tree_size a
child_smaller (node k d n s cs) ts i t e l is = let below = child-below ts i t l is in let same = ap trees_size e in omega (arith, below, same)

-- ---- chunks

first-type : (a b : Dtype) (as_ bs : List Dtype) → a ∷ as_ ≡ b ∷ bs → a ≡ b
first-type a b as_ bs e = cc

other-types : (a b : Dtype) (as_ bs : List Dtype) → a ∷ as_ ≡ b ∷ bs → as_ ≡ bs
other-types a b as_ bs e = cc

type-at : (d : Dtype) (ts : List LayoutTree) (i : ℕ) (t : LayoutTree) → replicate (length ts) d ≡ map type_of_tree ts → i < length ts → t ≡ get_or ts i t → type_of_tree t ≡ d
type-at d [] i t e l is = absurd (omega (arith, l))
type-at d (x ∷ ts) zero t e l is = ap type_of_tree is ∙ sym (first-type d (type_of_tree x) (replicate (length ts) d) (map type_of_tree ts) e)
type-at d (x ∷ ts) (suc i) t e l is = type-at d ts i t (other-types d (type_of_tree x) (replicate (length ts) d) (map type_of_tree ts) e) (omega (arith, l)) is

-- a chunk has the type of the whole
pub chunk_typed : (k : LayoutKind) (d : Dtype) (n : ℕ) (s : List ℕ) (ts : List LayoutTree) (i : ℕ) (t : LayoutTree) → k ≡ Chunked → Fits k d n s ts → i < length ts → t ≡ get_or ts i t → type_of_tree t ≡ d
chunk_typed k d n s ts i t chunked f l is =
    type-at d ts i t (some-same (replicate (length ts) d) (map type_of_tree ts) (subst (λ j. child_dtypes j d (length ts) ≡ Some (map type_of_tree ts)) chunked f.dtypes)) l is

-- the rows of a column of a layout are as many as its own length says
pub chunk_even : (t : LayoutTree) (c : Rows) → IsOf t c → IsColumn (rows_len c) c
chunk_even t c h = subst (λ n. IsColumn n c) (sym (len-of t c h)) h.1

-- the chunks in front are read and joined, and those behind are to be
pub record ReadChunks (serves : List ℕ → Type 0) (start now : SourceState) (ids : List (List ℕ)) (all rest : Layouts) (d : Dtype) (rows : Rows) : Type 0 where
  pub front : List Rows
  pub progress : Progress serves start now ids all rest front
  pub joined : IsJoined d front rows

-- ---- a flat layout

no-spec : SegmentSpec
no-spec = record { offset = 0; length = 0; alignment = 0 }

-- the bytes that a source gives are those of the segment
pub slice_bytes : (file : List ℕ) (table : List SegmentSpec) (s : ℕ) (buffer : Buffer) → s < length table → IsSlice file table s buffer → bytes_in file table s ≡ Some buffer.bytes
slice_bytes file table s buffer l h =
    let here = slice_get-get_or table s no-spec l in
    ap (option_map (λ (p : SegmentSpec). bytes_at file p.offset p.length)) here ∙ ap Some (sym (h (get_or table s no-spec) here))

pub decode_fails : (bytes : ℕ → Option (List ℕ)) (ids : List (List ℕ)) (a c : SourceState) (t : LayoutTree) (s : ℕ) (b : List ℕ) (e : ScanError) → kind_of t ≡ Flat → segments_of t ≡ s ∷ [] → bytes s ≡ Some b
    → DecodeFails s (array_in t ids b) e → ScanFails bytes ids a c (flats_of t) e
decode_fails bytes ids a c t s b (Segment id e) k g is h = absurd h
decode_fails bytes ids a c t s b (BadArray id) k g is h =
    subst (FirstFails (CanBeRead bytes ids) (FailsAt bytes ids a c (BadArray id))) (sym (flats_flat t s k g))
    (inl (h.0, ap (option_map (array ids (type_of_tree t) (tree_rows t))) is ∙ ap Some h.1))
decode_fails bytes ids a c t s b (UnknownEncoding id) k g is h =
    subst (FirstFails (CanBeRead bytes ids) (FailsAt bytes ids a c (UnknownEncoding id))) (sym (flats_flat t s k g))
    (inl (h.0, ap (option_map (array ids (type_of_tree t) (tree_rows t))) is ∙ ap Some h.1))
decode_fails bytes ids a c t s b OutOfMemory k g is h = tt
