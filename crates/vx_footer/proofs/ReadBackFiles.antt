-- The footer that a serializer wrote is read again from the file that it ends.
use Rattle.std.proofs.Common.{◌≡◌, ℕ, ◌+◌, ◌<◌, ◌≤◌, ◌^◌, Bool, true, false, List, [], ◌∷◌, ◌++◌, length, Option, Some, None, Ok, Err, refl, sym, ap, subst, ◌∙◌, arith, append_assoc, length-append}
use Rattle.std.specs.Prelude.{◌&&◌, ◌||◌, not, ◌==◌, nat_le, nat_lt, is_some, if◌then◌else◌, IfSome, Result}
use Rattle.std.specs.List.{AllByRecursion, flat_map, list_all}
use Rattle.std.specs.Option.{option_map}
use Rattle.std.proofs.lemmas.Bool.Decides.{nat_tests}
use Rattle.std.proofs.lemmas.List.{append-nil, length-map}
use Rattle.std.proofs.lemmas.Grind.{flat_map-append}
use Rattle.vx_base.specs.Buffer.{Buffer}
use Rattle.vx_base.specs.Checks.{◌>>=◌, ◌unless◌}
use Rattle.vx_tables.specs.Counted.{allowed}
use Rattle.vx_tables.specs.Standing.{IsAt}
use Rattle.vx_tables.proofs.Places.{at_left, at_right, at_move}
use Rattle.vx_data.specs.Dtype.{Dtype}
use Rattle.vx_data.specs.Layout.{dtype_of}
use Rattle.vx_data.specs.LayoutIds.{used_ids}
use Rattle.vx_data.specs.LayoutTable.{layout_checks}
use Rattle.vx_data.specs.StatsTable.{columns_of}
use Rattle.vx_footer.specs.declared.version.FileVersion.{FileVersion}
use Rattle.vx_footer.specs.declared.postscript.Postscript.{Postscript}
use Rattle.vx_footer.specs.declared.postscript.PostscriptSegment.{PostscriptSegment}
use Rattle.vx_footer.specs.declared.postscript.PostscriptMetadata.{PostscriptMetadata}
use Rattle.vx_footer.specs.declared.write_error.WriteError.TheVariants.{TooManyMetadata, NotPermitted, TooDeep, TooManyTables, SegmentTooLong, OffsetOverflow}
use Rattle.vx_footer.specs.FileStats.{FileStats}
use Rattle.vx_footer.specs.Footers.{FooterContent, metadata_specs, entries_size}
use Rattle.vx_footer.specs.Opening.{most_entries, end_checks, tail_checks, postscript_checks, table_bytes, dtype_found, statistics_found, content_checks, table_checks, ends_within, extent_check, footer_of, vx_grammar}
use Rattle.vx_footer.specs.PostscriptWritten.{postscript_root, keys_checks, postscript_written, IsNarrow, IsSpelled}
use Rattle.vx_footer.specs.Serialized.{place}
use Rattle.vx_footer.specs.Tables.{footer_table}
use Rattle.vx_footer.specs.Serializing.{Serializing, Roots, Parts, AreShort, sorted_values, value_parts, values_end, entries_by, keys_by, has_sets, stats_root, dtype_root, layout_root, footer_root, footer_visits, some_stats_visits, lengths_checks, metadata_checks, permits, is_shallow, has_few_visits, is_short, some_length, short_root, short_if, roots_checks, tables_checks, roots_end, postscript_at, some_part, marker, tail_parts, parts_from, root_from, assembling_checks, serializing_checks}
use Rattle.vx_footer.specs.ReadAgain.{stats_read, content_read, AreStats, IsPlaced, IsReadable, IsSupplied}
use Rattle.vx_footer.proofs.PostscriptBack.{written_back}
use Rattle.vx_footer.proofs.PostscriptSize.{root_is_short}
use Rattle.vx_footer.proofs.RootLemmas.{short_is, some_is, shallow_dtype, shallow_layout, small_dtype, small_layout, small_stats}
use Rattle.vx_footer.proofs.TablesBack.{dtype_checked}
use Rattle.vx_footer.proofs.TailBack.{table_back}
use Rattle.vx_footer.proofs.ValueLemmas.{entries_small, entries_few, metadata_few, metadata_lengths}
use Rattle.vx_footer.proofs.ReadBackLayouts.{layout_again}
use Rattle.vx_footer.proofs.ReadBackStats.{stats_again}
use Rattle.vx_footer.proofs.ReadBackMetadata.{sorted_all, sorted_distinct, entry_keys_are, entries_pass, entries_placed, are_entries, are_placed, end_within, values_long}
use Rattle.vx_footer.proofs.ReadBackTables.{used_texts, footer_row, footer_again, rows_plain, segments_pass, segments_within, end_again}

-- ---- checks that passed

record IsBound {A B E : Type 0} (x : Result A E) (f : A → Result B E) (y : B) : Type 0 where
  value : A
  first : x ≡ Ok value
  rest : f value ≡ Ok y

bound : {A B E : Type 0} (x : Result A E) (f : A → Result B E) (y : B) → (x >>= f) ≡ Ok y → IsBound x f y
bound (Ok v) f y h = record { value = v; first = refl; rest = h }
bound (Err e) f y h = absurd cc

must : {B E : Type 0} (e : E) (b : Bool) (r : Result B E) (y : B) → (e unless b >>= λ _. r) ≡ Ok y → (b ≡ true) × (r ≡ Ok y)
must e true r y h = (refl, h)
must e false r y h = absurd cc

at_most : (n m : ℕ) → nat_le n m ≡ true → n ≤ m
at_most n m h = grind (arith, nat_tests)

less : (n m : ℕ) → nat_lt n m ≡ true → n < m
less n m h = grind (arith, nat_tests)

and_parts : (a b : Bool) → (a && b) ≡ true → (a ≡ true) × (b ≡ true)
and_parts true true h = (refl, refl)
and_parts true false h = absurd cc
and_parts false b h = absurd cc

and_true : (a b : Bool) → a ≡ true → b ≡ true → (a && b) ≡ true
and_true a b h k = ap (λ x. x && b) h ∙ k

-- a root that was made
abbrev root_if : Bool → List ℕ → Option (List ℕ)
root_if true bytes = Some bytes
root_if false bytes = None

short_same : (xs ys : List ℕ) → short_root xs ≡ Ok ys → xs ≡ ys
short_same xs ys h = by (is_short xs) h
  where
    by : (b : Bool) → (SegmentTooLong unless b >>= λ _. Ok xs) ≡ Ok ys → xs ≡ ys
    by true h = cc
    by false h = absurd cc

some_same : (b : Bool) (xs : List ℕ) (o : Option (List ℕ)) → short_if b xs ≡ Ok o → root_if b xs ≡ o
some_same true xs o h = let p = bound (short_root xs) (λ b. Ok (Some b)) o h in ap (λ ys. Some ys) (short_same xs p.value p.first) ∙ (let last : Some p.value ≡ o = cc in last)
some_same false xs o h = cc

-- what the checks on tables tell of the roots
record AreRoots (excluded : Bool) (f : FooterContent) (r : Roots) : Type 0 where
  dtype : r.dtype ≡ root_if (not excluded) (dtype_root f)
  layout : r.layout ≡ layout_root f
  statistics : r.statistics ≡ root_if (has_sets f.statistics) (stats_root f.statistics)
  footer : r.footer ≡ footer_root f
  short : AreShort r
  shallow : is_shallow excluded f ≡ true
  few : has_few_visits excluded f ≡ true

roots_are : (excluded : Bool) (f : FooterContent) (r : Roots) → roots_checks excluded f ≡ Ok r → is_shallow excluded f ≡ true → has_few_visits excluded f ≡ true → AreRoots excluded f r
unfolding roots_checks
roots_are excluded f r h shallow few =
    let a = bound (short_if (not excluded) (dtype_root f)) _ r h in
    let b = bound (short_root (layout_root f)) _ r a.rest in
    let c = bound (short_if (has_sets f.statistics) (stats_root f.statistics)) _ r b.rest in
    let d = bound (short_root (footer_root f)) _ r c.rest in
    let made : Roots = record { dtype = a.value; layout = b.value; statistics = c.value; footer = d.value } in
    let last : made ≡ r = cc in
    let whole : AreRoots excluded f made = record {
      dtype = sym (some_same (not excluded) (dtype_root f) a.value a.first);
      layout = sym (short_same (layout_root f) b.value b.first);
      statistics = sym (some_same (has_sets f.statistics) (stats_root f.statistics) c.value c.first);
      footer = sym (short_same (footer_root f) d.value d.first);
      short = record {
        dtype = some_is (not excluded) (dtype_root f) a.value a.first;
        layout = short_is (layout_root f) b.value b.first;
        statistics = some_is (has_sets f.statistics) (stats_root f.statistics) c.value c.first;
        footer = short_is (footer_root f) d.value d.first;
      };
      shallow = shallow;
      few = few;
    } in
    subst (λ (x : Roots). AreRoots excluded f x) last whole

tables_are : (permitted : Option (List (List ℕ))) (excluded : Bool) (f : FooterContent) (r : Roots) → tables_checks permitted excluded f ≡ Ok r → AreRoots excluded f r
unfolding tables_checks
tables_are permitted excluded f r h =
    let a = must NotPermitted (permits permitted (used_ids f.layout)) _ r h in
    let b = must TooDeep (is_shallow excluded f) _ r a.1 in
    let c = must TooManyTables (has_few_visits excluded f) _ r b.1 in
    roots_are excluded f r c.1 b.0 c.0

-- what the checks on a footer tell
record IsSerialized (s : Serializing) (values : List (List ℕ × Buffer)) (parts : Parts) : Type 0 where
  roots : Roots
  few : nat_le (length (keys_by s.content.metadata values)) (most_entries s.version) ≡ true
  keys : lengths_checks s.version (keys_by s.content.metadata values) ≡ Ok tt
  tables : AreRoots s.excludes_dtype s.content roots
  short : list_all (λ v. is_short v.1.bytes) values ≡ true
  ends : roots_end (values_end s.offset values) roots < 2 ^ 64
  made : parts_from s.content s.offset s.version values roots (root_from s.content s.offset values roots) ≡ parts

serialized_is : (s : Serializing) (parts : Parts) → serializing_checks s ≡ Ok parts → IsSerialized s (sorted_values s) parts
unfolding serializing_checks assembling_checks
serialized_is s parts h =
    let values = sorted_values s in
    let ks = keys_by s.content.metadata values in
    let a = bound (metadata_checks s.version ks) _ parts h in
    let passed : metadata_checks s.version ks ≡ Ok tt = a.first in
    let b = bound (tables_checks s.permitted s.excludes_dtype s.content) _ parts a.rest in
    let c = must SegmentTooLong (list_all (λ v. is_short v.1.bytes) values) _ parts b.rest in
    let d = must OffsetOverflow (nat_lt (roots_end (values_end s.offset values) b.value) (2 ^ 64)) _ parts c.1 in
    record {
      roots = b.value;
      few = metadata_few s.version ks passed;
      keys = metadata_lengths s.version ks passed;
      tables = tables_are s.permitted s.excludes_dtype s.content b.value b.first;
      short = c.0;
      ends = less _ _ d.0;
      made = (let same : parts_from s.content s.offset s.version values b.value (root_from s.content s.offset values b.value) ≡ parts = cc in same);
    }

-- ---- where the parts lie

some_bytes : Option (List ℕ) → List ℕ
some_bytes None = []
some_bytes (Some b) = b

some_long : (o : Option (List ℕ)) → length (some_bytes o) ≡ some_length o
unfolding some_bytes
some_long None = refl
some_long (Some b) = refl

abbrev joined : List (List ℕ) → List ℕ
joined ps = flat_map (λ part. part) ps

abbrev tail_bytes : Option (List ℕ) → List ℕ → Option (List ℕ) → List ℕ → List ℕ → List ℕ → List ℕ
tail_bytes d l s f p m = some_bytes d ++ (l ++ (some_bytes s ++ (f ++ (p ++ m))))

tail_is : (d : Option (List ℕ)) (l : List ℕ) (s : Option (List ℕ)) (f p m : List ℕ) → joined (some_part d ++ (l ∷ []) ++ some_part s ++ (f ∷ []) ++ (p ∷ m ∷ [])) ≡ tail_bytes d l s f p m
unfolding some_bytes
tail_is None l None f p m = ap (λ x. l ++ (f ++ (p ++ x))) (append-nil m)
tail_is None l (Some s) f p m = ap (λ x. l ++ (s ++ (f ++ (p ++ x)))) (append-nil m)
tail_is (Some d) l None f p m = ap (λ x. d ++ (l ++ (f ++ (p ++ x)))) (append-nil m)
tail_is (Some d) l (Some s) f p m = ap (λ x. d ++ (l ++ (s ++ (f ++ (p ++ x))))) (append-nil m)

-- the tables in a file, the first of which begins at an offset
record Lies (file : List ℕ) (at : ℕ) (r : Roots) : Type 0 where
  dtype : IsAt file at (some_bytes r.dtype)
  layout : IsAt file (at + some_length r.dtype) r.layout
  statistics : IsAt file (at + some_length r.dtype + length r.layout) (some_bytes r.statistics)
  footer : IsAt file (at + some_length r.dtype + length r.layout + some_length r.statistics) r.footer
  ends : roots_end at r ≤ length file

lies : (file front : List ℕ) (at : ℕ) (r : Roots) (p m : List ℕ) → length front ≡ at → file ≡ front ++ tail_bytes r.dtype r.layout r.statistics r.footer p m → Lies file at r
lies file front at r p m long is =
    let d = some_bytes r.dtype in
    let l = r.layout in
    let s = some_bytes r.statistics in
    let f = r.footer in
    let whole : IsAt file at (tail_bytes r.dtype l r.statistics f p m) = record { front = front; rest = []; parts = is ∙ ap (λ z. front ++ z) (sym (append-nil (tail_bytes r.dtype l r.statistics f p m))); place = long } in
    let behind_d = at_right file at d (l ++ (s ++ (f ++ (p ++ m)))) whole in
    let behind_l = at_right file (at + length d) l (s ++ (f ++ (p ++ m))) behind_d in
    let behind_s = at_right file (at + length d + length l) s (f ++ (p ++ m)) behind_l in
    let dl = some_long r.dtype in
    let sl = some_long r.statistics in
    record {
      dtype = at_left file at d (l ++ (s ++ (f ++ (p ++ m)))) whole;
      layout = at_move file (at + length d) (at + some_length r.dtype) l (omega (arith, dl)) (at_left file (at + length d) l (s ++ (f ++ (p ++ m))) behind_d);
      statistics = at_move file (at + length d + length l) (at + some_length r.dtype + length l) s (omega (arith, dl)) (at_left file (at + length d + length l) s (f ++ (p ++ m)) behind_l);
      footer = at_move file (at + length d + length l + length s) (at + some_length r.dtype + length l + some_length r.statistics) f (omega (arith, dl, sl)) (at_left file (at + length d + length l + length s) f (p ++ m) behind_s);
      ends = omega (arith, long, dl, sl, ap length is, length-append front (tail_bytes r.dtype l r.statistics f p m), length-append d (l ++ (s ++ (f ++ (p ++ m)))), length-append l (s ++ (f ++ (p ++ m))), length-append s (f ++ (p ++ m)), length-append f (p ++ m));
    }

before_end : (front d l s f t : List ℕ) → front ++ (d ++ (l ++ (s ++ (f ++ t)))) ≡ ((((front ++ d) ++ l) ++ s) ++ f) ++ t
before_end front d l s f t =
    sym (append_assoc front d (l ++ (s ++ (f ++ t)))) ∙ sym (append_assoc (front ++ d) l (s ++ (f ++ t))) ∙ sym (append_assoc ((front ++ d) ++ l) s (f ++ t)) ∙ sym (append_assoc (((front ++ d) ++ l) ++ s) f t)

end_checked : (version : FileVersion) (file front : List ℕ) (r : Roots) (p : List ℕ) → file ≡ front ++ tail_bytes r.dtype r.layout r.statistics r.footer p (marker version (length p)) → length p ≤ 65527
    → end_checks file ≡ Ok (version, p)
end_checked version file front r p is short =
    let d = some_bytes r.dtype in
    let s = some_bytes r.statistics in
    ap end_checks (is ∙ before_end front d r.layout s r.footer (p ++ marker version (length p))) ∙ end_again version ((((front ++ d) ++ r.layout) ++ s) ++ r.footer) p short

-- ---- the type and the statistics

abbrev found_at : List ℕ → ℕ → Option (List ℕ) → Option PostscriptSegment
found_at file at r = option_map (place at) r

type_known : (dtype : Option Dtype) (excluded : Bool) (d : Dtype) (at : ℕ) (bytes : List ℕ) (r : Option (List ℕ)) → IsSupplied dtype excluded d → r ≡ root_if (not excluded) bytes → (is_some dtype || is_some (option_map (place at) r)) ≡ true
type_known (Some e) excluded d at bytes r h is = refl
type_known None excluded d at bytes r h is =
    let same : r ≡ Some bytes = is ∙ ap (λ b. root_if (not b) bytes) h.0 in
    ap (λ x. is_some (option_map (place at) x)) same

passed_if : (excluded b : Bool) → (excluded || b) ≡ true → excluded ≡ false → b ≡ true
passed_if false b h e = h
passed_if true b h e = absurd cc

type_found : (file : List ℕ) (at : ℕ) (dtype : Option Dtype) (excluded : Bool) (f : FooterContent) (r : Roots) → IsSupplied dtype excluded (dtype_of f.layout) → AreRoots excluded f r → Lies file at r
    → dtype_found (table_bytes file) dtype (option_map (place at) r.dtype) ≡ Ok (dtype_of f.layout)
unfolding some_bytes
type_found file at (Some e) excluded f r h t lie = ap (λ x. Ok x) h
type_found file at None excluded f r h t lie =
    let d = dtype_of f.layout in
    let bytes = dtype_root f in
    let same : r.dtype ≡ Some bytes = t.dtype ∙ ap (λ b. root_if (not b) bytes) h.0 in
    let here : IsAt file at bytes = subst (λ (o : Option (List ℕ)). IsAt file at (some_bytes o)) same lie.dtype in
    let short : length bytes < 2 ^ 32 = subst (λ (o : Option (List ℕ)). some_length o < 2 ^ 32) same t.short.dtype in
    let shallow = at_most _ _ (passed_if excluded _ (shallow_dtype excluded f t.shallow) h.0) in
    let few = at_most _ _ (passed_if excluded _ (small_dtype excluded f t.few) h.0) in
    ap (λ o. dtype_found (table_bytes file) None (option_map (place at) o)) same ∙ rw (table_back file at bytes here, dtype_checked d h.1 short shallow few) refl

stats_here : (file : List ℕ) (at : ℕ) (d : Dtype) (stats : FileStats) → AreStats d stats → length (stats_root (Some stats)) < 2 ^ 32 → some_stats_visits (Some stats) ≤ 1000000 → IsAt file at (stats_root (Some stats))
    → statistics_found (table_bytes file) d (Some (place at (stats_root (Some stats)))) ≡ Ok (Some stats)
stats_here file at d stats h short few here =
    let made : FileStats = record { sets = stats.sets; dtypes = columns_of d } in
    let same : made ≡ stats = λ i. record { sets = stats.sets; dtypes = sym h.dtypes i } in
    rw (table_back file at (stats_root (Some stats)) here, stats_again d stats h short few) (ap (λ x. Ok (Some x)) same)

stats_by : (file : List ℕ) (at : ℕ) (d : Dtype) (stats : FileStats) (b : Bool) (r : Option (List ℕ)) → r ≡ root_if (not b) (stats_root (Some stats)) → AreStats d stats → some_length r < 2 ^ 32
    → some_stats_visits (Some stats) ≤ 1000000 → IsAt file at (some_bytes r) → statistics_found (table_bytes file) d (option_map (place at) r) ≡ Ok (if b then None else Some stats)
unfolding some_bytes
stats_by file at d stats true r is h short few here = ap (λ o. statistics_found (table_bytes file) d (option_map (place at) o)) is
stats_by file at d stats false r is h short few here =
    ap (λ o. statistics_found (table_bytes file) d (option_map (place at) o)) is
    ∙ stats_here file at d stats h (subst (λ (o : Option (List ℕ)). some_length o < 2 ^ 32) is short) few (subst (λ (o : Option (List ℕ)). IsAt file at (some_bytes o)) is here)

stats_found : (file : List ℕ) (at : ℕ) (d : Dtype) (o : Option FileStats) (r : Option (List ℕ)) → r ≡ root_if (has_sets o) (stats_root o) → IfSome o (AreStats d) → some_length r < 2 ^ 32
    → nat_le (some_stats_visits o) 1000000 ≡ true → IsAt file at (some_bytes r) → statistics_found (table_bytes file) d (option_map (place at) r) ≡ Ok (stats_read o)
stats_found file at d None r is h short few here = ap (λ x. statistics_found (table_bytes file) d (option_map (place at) x)) is
stats_found file at d (Some stats) r is h short few here = stats_by file at d stats (length stats.sets == 0) r is h short (at_most _ _ few) here

-- ---- the postscript

narrow : (at : ℕ) (bytes : List ℕ) → at < 2 ^ 64 → length bytes < 2 ^ 32 → IsNarrow (place at bytes)
narrow at bytes low short = record { offset = low; size = short; exponent = omega arith }

some_narrow : (at : ℕ) (o : Option (List ℕ)) → at < 2 ^ 64 → some_length o < 2 ^ 32 → IfSome (option_map (place at) o) IsNarrow
some_narrow at None low short = tt
some_narrow at (Some bytes) low short = narrow at bytes low short

spelled : (at size : ℕ) (r : Roots) (ms : List PostscriptMetadata) → AreShort r → roots_end at r < 2 ^ 64 → AllByRecursion (IsPlaced size) ms → IsSpelled (postscript_at at r ms)
spelled at size r ms short low placed = record {
  dtype = some_narrow at r.dtype (omega (arith, low)) short.dtype;
  layout = narrow (at + some_length r.dtype) r.layout (omega (arith, low)) short.layout;
  statistics = some_narrow (at + some_length r.dtype + length r.layout) r.statistics (omega (arith, low)) short.statistics;
  footer = narrow (at + some_length r.dtype + length r.layout + some_length r.statistics) r.footer (omega (arith, low)) short.footer;
  metadata = are_entries size ms placed;
}

few_passed : {E : Type 0} (e : E) (b : Bool) (k : Result (Unit {0}) E) (x : List ℕ) → b ≡ true → k ≡ Ok tt → (e unless b >>= λ _. k >>= λ _. Ok x) ≡ Ok x
few_passed e b k x hb hk = rw (hb, hk) refl

postscript_again : (version : FileVersion) (p : Postscript) → IsSpelled p → nat_le (length p.metadata) (most_entries version) ≡ true → keys_checks version [] p.metadata ≡ Ok tt → postscript_checks version (postscript_root p) ≡ Ok p
unfolding postscript_written
postscript_again version p h few keys = written_back version p (postscript_root p) h (few_passed TooManyMetadata (nat_le (length p.metadata) (most_entries version)) (keys_checks version [] p.metadata) (postscript_root p) few keys)

-- ---- the tables

layout_found : (excluded : Bool) (s : Serializing) (size : ℕ) → IsReadable size s → is_shallow excluded s.content ≡ true → has_few_visits excluded s.content ≡ true → length (layout_root s.content) < 2 ^ 32
    → layout_checks (used_ids s.content.layout) (dtype_of s.content.layout) (layout_root s.content) ≡ Ok s.content.layout
layout_found excluded s size h shallow few short =
    layout_again s.content.layout h.layout (at_most _ _ (shallow_layout excluded s.content shallow)) (at_most _ _ (small_layout excluded s.content few)) short

footer_found : (excluded : Bool) (s : Serializing) (size : ℕ) → IsReadable size s → has_few_visits excluded s.content ≡ true → length (footer_root s.content) < 2 ^ 32
    → allowed (footer_table (footer_root s.content)) ≡ Some (footer_row s.content.array_ids (used_ids s.content.layout) s.content.segments)
footer_found excluded s size h few short =
    let f = s.content in
    let visits = (and_parts _ (nat_le (footer_visits f) 1000000) few).1 in
    footer_again size f.array_ids (used_ids f.layout) f.segments h.segments h.ids (used_texts f.layout) short (at_most _ _ visits)

content_found : (excluded : Bool) (s : Serializing) (size : ℕ) (version : FileVersion) (ms : List PostscriptMetadata) → IsReadable size s → is_shallow excluded s.content ≡ true → has_few_visits excluded s.content ≡ true
    → length (layout_root s.content) < 2 ^ 32 → length (footer_root s.content) < 2 ^ 32
    → content_checks version (dtype_of s.content.layout) (stats_read s.content.statistics) ms (footer_root s.content) (layout_root s.content) ≡ Ok (content_read (record s.content { version = version; metadata = ms }))
unfolding content_checks
content_found excluded s size version ms h shallow few short_layout short_footer =
    let f = s.content in
    rw (footer_found excluded s size h few short_footer, rows_plain f.segments, layout_found excluded s size h shallow few short_layout, segments_pass size f.segments h.segments h.ordered) refl

tables_found : (file : List ℕ) (at : ℕ) (dtype : Option Dtype) (s : Serializing) (r : Roots) (version : FileVersion) (ms : List PostscriptMetadata) → IsReadable (length file) s → IsSupplied dtype s.excludes_dtype (dtype_of s.content.layout)
    → AreRoots s.excludes_dtype s.content r → Lies file at r → AllByRecursion (IsPlaced (length file)) ms
    → table_checks (table_bytes file) dtype version (postscript_at at r ms) ≡ Ok (content_read (record s.content { version = version; metadata = ms }))
unfolding table_checks
tables_found file at dtype s r version ms h supplied t lie placed =
    let f = s.content in
    let size = length file in
    let statistics_at = at + some_length r.dtype + length r.layout in
    let type_is = type_found file at dtype s.excludes_dtype f r supplied t lie in
    let stats_are = stats_found file statistics_at (dtype_of f.layout) f.statistics r.statistics t.statistics h.stats t.short.statistics (small_stats s.excludes_dtype f t.few) lie.statistics in
    let footer_is = table_back file (statistics_at + some_length r.statistics) r.footer lie.footer in
    let layout_is = table_back file (at + some_length r.dtype) r.layout lie.layout in
    let short_layout : length (layout_root f) < 2 ^ 32 = subst (λ (b : List ℕ). length b < 2 ^ 32) t.layout t.short.layout in
    let short_footer : length (footer_root f) < 2 ^ 32 = subst (λ (b : List ℕ). length b < 2 ^ 32) t.footer t.short.footer in
    let content = content_found s.excludes_dtype s size version ms h t.shallow t.few short_layout short_footer in
    let made : content_checks version (dtype_of f.layout) (stats_read f.statistics) ms r.footer r.layout ≡ Ok (content_read (record f { version = version; metadata = ms })) =
    ap (λ b. content_checks version (dtype_of f.layout) (stats_read f.statistics) ms b r.layout) t.footer
    ∙ ap (λ b. content_checks version (dtype_of f.layout) (stats_read f.statistics) ms (footer_root f) b) t.layout
    ∙ content in
    rw (type_is, stats_are, are_placed size ms placed, footer_is, layout_is) made

-- ---- the file

list_and : {A : Type 0} (test : A → Bool) (xs ys : List A) → list_all test xs ≡ true → list_all test ys ≡ true → list_all test (xs ++ ys) ≡ true
list_and test [] ys h k = k
list_and test (x ∷ xs) ys h k =
    let parts = and_parts (test x) (list_all test xs) h in
    and_true (test x) (list_all test (xs ++ ys)) parts.0 (list_and test xs ys parts.1 k)

extent_passes : (size : ℕ) (s : Serializing) (version : FileVersion) (ms : List PostscriptMetadata) → IsReadable size s → AllByRecursion (IsPlaced size) ms
    → extent_check size (content_read (record s.content { version = version; metadata = ms })) ≡ Ok (content_read (record s.content { version = version; metadata = ms }))
extent_passes size s version ms h placed =
    let inside = list_and (ends_within size) s.content.segments (metadata_specs ms) (segments_within size s.content.segments h.segments) (end_within size ms placed) in
    rw inside refl

file_is : (front : List ℕ) (s : Serializing) (values : List (List ℕ × Buffer)) (r : Roots) (p : List ℕ)
    → front ++ joined (value_parts s.offset values ++ tail_parts s.version r p) ≡ (front ++ joined (value_parts s.offset values)) ++ tail_bytes r.dtype r.layout r.statistics r.footer p (marker s.version (length p))
file_is front s values r p =
    let v = value_parts s.offset values in
    let m = marker s.version (length p) in
    let t = tail_bytes r.dtype r.layout r.statistics r.footer p m in
    let split : joined (v ++ tail_parts s.version r p) ≡ joined v ++ t = flat_map-append (λ (part : List ℕ). part) v (tail_parts s.version r p) ∙ ap (λ z. joined v ++ z) (tail_is r.dtype r.layout r.statistics r.footer p m) in
    ap (λ z. front ++ z) split ∙ sym (append_assoc front (joined v) t)

root_short : (p : Postscript) → length p.metadata ≤ 64 → entries_size p.metadata ≤ 17408 → length (postscript_root p) ≤ 20122
unfolding postscript_root
root_short p few small = root_is_short p few small

opened : (file front : List ℕ) (dtype : Option Dtype) (s : Serializing) (parts : Parts) → length front ≡ s.offset → IsSerialized s (sorted_values s) parts → file ≡ front ++ joined parts.parts → IsReadable (length file) s
    → IsSupplied dtype s.excludes_dtype (dtype_of s.content.layout) → vx_grammar file dtype ≡ Ok (content_read parts.content)
unfolding vx_grammar footer_of tail_checks
opened file front dtype s parts long is whole h supplied =
    let f = s.content in
    let values = sorted_values s in
    let r = is.roots in
    let size = length file in
    let at = values_end s.offset values in
    let ms = entries_by f.metadata s.offset values in
    let p = root_from f s.offset values r in
    let m = marker s.version (length p) in
    let v = joined (value_parts s.offset values) in
    let made : file ≡ (front ++ v) ++ tail_bytes r.dtype r.layout r.statistics r.footer p m = whole ∙ ap (λ (x : Parts). front ++ joined x.parts) (sym is.made) ∙ file_is front s values r p in
    let begins : length (front ++ v) ≡ at = length-append front v ∙ ap (λ n. n + length v) long ∙ values_long s.offset values in
    let lie = lies file (front ++ v) at r p m begins made in
    let distinct = sorted_distinct f.metadata s.values h.distinct in
    let placed = entries_placed f.metadata s.offset size values h.own (sorted_all s.values h.values) is.short (omega (arith, lie.ends)) (omega (arith, is.ends)) in
    let few = entries_few s.version f.metadata s.offset values is.few in
    let small = entries_small s.version f.metadata s.offset values is.few is.keys in
    let short = root_short (postscript_at at r ms) few small in
    let ended = end_checked s.version file (front ++ v) r p made (omega (arith, short)) in
    let count : nat_le (length ms) (most_entries s.version) ≡ true = ap (λ n. nat_le n (most_entries s.version)) (sym (length-map ms (λ (e : PostscriptMetadata). e.key)) ∙ ap length (entry_keys_are f.metadata s.offset values)) ∙ is.few in
    let again = postscript_again s.version (postscript_at at r ms) (spelled at size r ms is.tables.short is.ends placed) count (entries_pass s.version f.metadata s.offset values is.keys distinct) in
    let known = type_known dtype s.excludes_dtype (dtype_of f.layout) at (dtype_root f) r.dtype supplied is.tables.dtype in
    let tables = tables_found file at dtype s r s.version ms h supplied is.tables lie placed in
    rw (ended, again, known, tables) (extent_passes size s s.version ms h placed ∙ ap (λ (x : Parts). Ok (content_read x.content)) is.made)

pub serialized_again : (front : List ℕ) (dtype : Option Dtype) (s : Serializing) (parts : Parts) → length front ≡ s.offset → serializing_checks s ≡ Ok parts → IsReadable (length (front ++ flat_map (λ part. part) parts.parts)) s
    → IsSupplied dtype s.excludes_dtype (dtype_of s.content.layout) → vx_grammar (front ++ flat_map (λ part. part) parts.parts) dtype ≡ Ok (content_read parts.content)
serialized_again front dtype s parts long checks h supplied = opened (front ++ joined parts.parts) front dtype s parts long (serialized_is s parts checks) refl h supplied

-- what is written of a footer keeps its layout, its segments and its ids
pub record KeepsContent (s : Serializing) (parts : Parts) : Type 0 where
  pub layout : parts.content.layout ≡ s.content.layout
  pub segments : parts.content.segments ≡ s.content.segments
  pub ids : parts.content.array_ids ≡ s.content.array_ids

pub content_kept : (s : Serializing) (parts : Parts) → serializing_checks s ≡ Ok parts → KeepsContent s parts
content_kept s parts h =
    let is = serialized_is s parts h in
    record {
      layout = ap (λ (x : Parts). x.content.layout) (sym is.made);
      segments = ap (λ (x : Parts). x.content.segments) (sym is.made);
      ids = ap (λ (x : Parts). x.content.array_ids) (sym is.made);
    }
