-- A file of rows that was written opens to its footer.
use Rattle.std.proofs.Common.{◌≡◌, ℕ, zero, suc, ◌+◌, ◌<◌, ◌≤◌, ◌^◌, Bool, true, false, List, [], ◌∷◌, ◌++◌, length, Option, Ok, Err, refl, sym, ap, subst, ◌∙◌, arith, append_assoc, length-append, IsAscii}
use Rattle.std.specs.Prelude.{◌&&◌, nat_lt, codes, if◌then◌else◌, IfSome, Result}
use Rattle.std.specs.List.{All, AllByRecursion, filter}
use Rattle.std.specs.Str.{is_utf8}
use Rattle.std.proofs.lemmas.Bool.Decides.{nat_tests}
use Rattle.std.proofs.lemmas.List.{length-map}
use Rattle.std.proofs.lemmas.Str.{IsUtf8-from_ascii, is_utf8-from_IsUtf8}
use Rattle.std.proofs.lemmas.Str.Ascii.{IsAscii-nil}
use Rattle.vx_base.specs.Buffer.{Buffer}
use Rattle.vx_base.specs.Checks.{◌>>=◌, ◌unless◌}
use Rattle.vx_tables.specs.Standing.{AreUtf8}
use Rattle.vx_data.specs.Dtype.{Dtype}
use Rattle.vx_data.specs.Layout.{dtype_of as type_of_layout}
use Rattle.vx_data.specs.LayoutWritten.{has_id}
use Rattle.vx_data.specs.Session.{known_arrays}
use Rattle.vx_footer.specs.declared.write_error.WriteError.{WriteError}
use Rattle.vx_footer.specs.declared.write_error.WriteError.TheVariants.{OffsetOverflow}
use Rattle.vx_footer.specs.Footers.{FooterContent}
use Rattle.vx_footer.specs.Opening.{vx_grammar}
use Rattle.vx_footer.specs.Serializing.{Parts, keys_by, are_distinct, serializing_checks}
use Rattle.vx_footer.specs.ReadAgain.{content_read, AreStats, IsReadable, IsSupplied}
use Rattle.vx_footer.proofs.ReadBackFiles.{serialized_again}
use Rattle.vx_rows.specs.Rows.{Rows, rows_len, dtype_of, IsColumn}
use Rattle.vx_rows.proofs.ColumnLaws.{appended_type, appended_is_column}
use Rattle.vx_rows.proofs.KeepLemmas.{new_even}
use Rattle.vx_write.specs.Laying.{grouped, leaf_count, AreFull, AreSums, AreLeaves}
use Rattle.vx_write.specs.Leaves.{leaf_type, leaf_types, column_types}
use Rattle.vx_write.specs.OpensAgain.{AreTold, Accepted}
use Rattle.vx_write.specs.Options.{Options, keys_of, array_ids}
use Rattle.vx_write.specs.Placed.{Place, lead}
use Rattle.vx_write.specs.Plans.{IsFor, leaves_of, columns_of}
use Rattle.vx_write.specs.Sending.{chunks_checks, encoded_chunks}
use Rattle.vx_write.specs.Written.{plan_for, coding_of, leaves_after, filled_by, place_after, sent, rows_after, count_after, last_chunks, place_behind, chunks_sent, content_of, serializing, tail_bytes, tail_checks, end_checks, whole, written}
use Rattle.vx_write.proofs.GatheredLemmas.{empty_rows, empty_type}
use Rattle.vx_write.proofs.LayingLemmas.{laid_type, grouped_long}
use Rattle.vx_write.proofs.LeavesLemmas.{grown_typed}
use Rattle.vx_write.proofs.PlanLemmas.{planned_is_for}
use Rattle.vx_write.proofs.SplitLemmas.{columns_typed, columns_even}
use Rattle.vx_write.proofs.SumsLemmas.{sums_begun, leaves_begun, leaves_next, sums_next, sums_end}
use Rattle.vx_write.proofs.ReadBackPlaces.{Kept, WentOut, kept_first, kept_all, kept_ordered, kept_within, none_out, out_all}
use Rattle.vx_write.proofs.ReadBackPlans.{low_grouped, plan_laid}
use Rattle.vx_write.proofs.ReadBackStatistics.{stats_are}

-- ---- the ids of arrays

are_ascii : List ℕ → Bool
are_ascii [] = true
are_ascii (b ∷ bs) = nat_lt b 128 && are_ascii bs

and_parts : (a b : Bool) → (a && b) ≡ true → (a ≡ true) × (b ≡ true)
and_parts true true h = (refl, refl)
and_parts true false h = absurd cc
and_parts false b h = absurd cc

less : (n m : ℕ) → nat_lt n m ≡ true → n < m
less n m h = grind (arith, nat_tests)

ascii_is : (bs : List ℕ) → are_ascii bs ≡ true → IsAscii bs
unfolding are_ascii
ascii_is [] h i = IsAscii-nil i
ascii_is (b ∷ bs) h zero = less b 128 (and_parts _ _ h).0
ascii_is (b ∷ bs) h (suc i) = ascii_is bs (and_parts _ _ h).1 i

ascii_text : (id : List ℕ) → are_ascii id ≡ true → is_utf8 id ≡ true
ascii_text id h = is_utf8-from_IsUtf8 id (IsUtf8-from_ascii id (ascii_is id h))

abbrev AllTexts : List (List ℕ) → Type 0
AllTexts ids = AllByRecursion (λ (id : List ℕ). is_utf8 id ≡ true) ids

known_texts : AllTexts known_arrays
unfolding are_ascii
known_texts = (ascii_text (codes "vortex.bool") refl, (ascii_text (codes "vortex.primitive") refl, (ascii_text (codes "vortex.struct") refl, (ascii_text (codes "vortex.varbin") refl, tt))))

filter_texts : (test : List ℕ → Bool) (ids : List (List ℕ)) → AllTexts ids → AllTexts (filter test ids)
filter_texts test [] h = tt
filter_texts test (id ∷ ids) h = by (test id) (filter_texts test ids h.1)
  where
    by : (b : Bool) → AllTexts (filter test ids) → AllTexts (if b then id ∷ filter test ids else filter test ids)
    by true rest = (h.0, rest)
    by false rest = rest

filter_few : (test : List ℕ → Bool) (ids : List (List ℕ)) → length (filter test ids) ≤ length ids
filter_few test [] = omega arith
filter_few test (id ∷ ids) = by (test id) (filter_few test ids)
  where
    by : (b : Bool) → length (filter test ids) ≤ length ids → length (if b then id ∷ filter test ids else filter test ids) ≤ length (id ∷ ids)
    by true rest = omega (arith, rest)
    by false rest = omega (arith, rest)

ids_texts : (o : Options) → AllTexts (array_ids o)
ids_texts o = by o.enforces
  where
    by : (b : Bool) → AllTexts (if b then filter (has_id o.session.arrays) known_arrays else known_arrays)
    by true = filter_texts (has_id o.session.arrays) known_arrays known_texts
    by false = known_texts

pub few_ids : (o : Options) → length (array_ids o) ≤ 4
few_ids o = by o.enforces
  where
    by : (b : Bool) → length (if b then filter (has_id o.session.arrays) known_arrays else known_arrays) ≤ 4
    by true = filter_few (has_id o.session.arrays) known_arrays
    by false = omega arith

as_utf8 : (ids : List (List ℕ)) → AllTexts ids → AreUtf8 ids
as_utf8 [] h i s got = absurd cc
as_utf8 (x ∷ ids) h zero s got = let same : x ≡ s = cc in subst (λ (y : List ℕ). is_utf8 y ≡ true) same h.0
as_utf8 (x ∷ ids) h (suc i) s got = as_utf8 ids h.1 i s got

-- ---- after pushes

pub record IsAfter (o : Options) (d : Dtype) (past : List Rows) : Type 0 where
  pub leaves : AreLeaves (leaves_after o d past)
  pub types : leaf_types (leaves_after o d past) ≡ leaf_types (leaves_of (plan_for o d) d)
  pub sums : AreSums (count_after past) (grouped (leaf_count (plan_for o d)) (place_after o d past).laid) (leaves_after o d past)
  pub kept : Kept (place_after o d past)
  pub out : WentOut (sent o d past) (place_after o d past)
  pub typed : dtype_of (rows_after d past) ≡ d
  pub even : IsColumn (count_after past) (rows_after d past)
  pub few : count_after past < 2 ^ 64

pub plan_fits : (o : Options) (d : Dtype) → AreTold o → IsFor (plan_for o d) d
plan_fits o d told = planned_is_for o.strategy d told.blocks told.rules

-- the columns of a chunk are those of the leaves
pub record AreColumnsOf (o : Options) (d : Dtype) (past : List Rows) (c : Rows) : Type 0 where
  pub typed : column_types (columns_of (plan_for o d) c) ≡ leaf_types (leaves_after o d past)
  pub even : All (IsColumn (rows_len c)) (columns_of (plan_for o d) c)

pub columns_are : (o : Options) (d : Dtype) (past : List Rows) (c : Rows) → IsFor (plan_for o d) d → dtype_of c ≡ d → IsColumn (rows_len c) c → leaf_types (leaves_after o d past) ≡ leaf_types (leaves_of (plan_for o d) d) → AreColumnsOf o d past c
columns_are o d past c fit typed even types =
    let p = plan_for o d in
    record {
      typed = columns_typed p c (subst (λ (e : Dtype). IsFor p e) (sym typed) fit) ∙ ap (λ (e : Dtype). leaf_types (leaves_of p e)) typed ∙ sym types;
      even = columns_even (rows_len c) p c even;
    }

pub after : (o : Options) (d : Dtype) (past : List Rows) → AreTold o → Accepted o d past → IsAfter o d past
after o d [] told h = record {
  leaves = leaves_begun (plan_for o d) d (plan_fits o d told);
  types = refl;
  sums = sums_begun (plan_for o d) d (plan_fits o d told);
  kept = kept_first;
  out = none_out;
  typed = empty_type d;
  even = subst (λ n. IsColumn n (rows_after d [])) (empty_rows d) (new_even d (rows_after d []) refl);
  few = omega arith;
}
after o d (c ∷ past) told h =
    let a = after o d past told h.0 in
    let k = coding_of o in
    let p = place_after o d past in
    let leaves = leaves_after o d past in
    let columns = columns_of (plan_for o d) c in
    let chunk = h.1 in
    let are = columns_are o d past c (plan_fits o d told) chunk.typed chunk.even a.types in
    let many : length columns ≡ length leaves = sym (length-map columns dtype_of) ∙ ap length are.typed ∙ length-map leaves leaf_type in
    record {
      leaves = leaves_next (rows_len c) leaves columns a.leaves are.typed are.even;
      types = grown_typed leaves columns many ∙ a.types;
      sums = sums_next k p (leaf_count (plan_for o d)) (count_after past) (rows_len c) leaves columns a.leaves are.typed are.even a.sums;
      kept = kept_all k p (filled_by o d past c) told.aligned a.kept h.3;
      out = out_all (sent o d past) p (encoded_chunks k (filled_by o d past c)) a.out;
      typed = appended_type (rows_after d past) c ∙ a.typed;
      even = appended_is_column (count_after past) (rows_len c) (rows_after d past) c (a.typed ∙ sym chunk.typed) a.even chunk.even;
      few = h.2;
    }

-- ---- the end

pub record IsEnded (o : Options) (d : Dtype) (past : List Rows) (parts : Parts) : Type 0 where
  pub chunks : chunks_checks (coding_of o) (place_after o d past) (last_chunks o d past) ≡ Ok tt
  pub tail : serializing_checks (serializing o (place_behind o d past) (content_of o d past)) ≡ Ok parts
  pub file : written o d past ≡ (chunks_sent o d past ++ lead (place_behind o d past).taken) ++ tail_bytes parts

first_ok : {B : Type 0} (r : Result (Unit {0}) WriteError) (s : Result B WriteError) (y : B) → (r >>= λ _. s) ≡ Ok y → (r ≡ Ok tt) × (s ≡ Ok y)
first_ok (Ok tt) s y h = (refl, h)
first_ok (Err e) s y h = absurd cc

tail_by : (x : Parts) (b : Bool) (y : Parts) → (OffsetOverflow unless b >>= λ _. Ok x) ≡ Ok y → ◌≡◌ {A = Result Parts WriteError} (Ok x) (Ok y)
tail_by x true y h = h
tail_by x false y h = absurd cc

tail_ok : (r : Result Parts WriteError) (test : Parts → Bool) (y : Parts) → (r >>= λ parts. OffsetOverflow unless test parts >>= λ _. Ok parts) ≡ Ok y → r ≡ Ok y
tail_ok (Ok x) test y h = tail_by x (test x) y h
tail_ok (Err e) test y h = absurd cc

tail_passes : (o : Options) (p : Place) (content : FooterContent) (parts : Parts) → tail_checks o p content ≡ Ok parts → serializing_checks (serializing o p content) ≡ Ok parts
unfolding tail_checks
tail_passes o p content parts h = tail_ok (serializing_checks (serializing o p content)) (λ (x : Parts). nat_lt (p.offset + length (tail_bytes x)) (2 ^ 64)) parts h

pub ended : (o : Options) (d : Dtype) (past : List Rows) (parts : Parts) → end_checks o d past ≡ Ok parts → IsEnded o d past parts
ended o d past parts h =
    let p = place_behind o d past in
    let t = first_ok (chunks_checks (coding_of o) (place_after o d past) (last_chunks o d past)) (tail_checks o p (content_of o d past)) parts h in
    record {
      chunks = t.0;
      tail = tail_passes o p (content_of o d past) parts t.1;
      file = ap (whole o d past) h ∙ sym (append_assoc (chunks_sent o d past) (lead p.taken) (tail_bytes parts));
    }

own_keys : (vs : List (List ℕ × Buffer)) → keys_by [] vs ≡ keys_of vs
own_keys [] = refl
own_keys (v ∷ vs) = refl

-- what the layout is of
pub layout_type : (o : Options) (d : Dtype) (past : List Rows) → IsFor (plan_for o d) d → AreFull (count_after past) (grouped (leaf_count (plan_for o d)) (place_behind o d past).laid) → type_of_layout (content_of o d past).layout ≡ d
layout_type o d past fit full =
    let count = leaf_count (plan_for o d) in
    let gs = grouped count (place_behind o d past).laid in
    let long = grouped_long count (place_behind o d past).laid in
    laid_type (plan_for o d) d (count_after past) gs fit full (omega (arith, long))

pub full_after : (o : Options) (d : Dtype) (past : List Rows) → IsAfter o d past → AreFull (count_after past) (grouped (leaf_count (plan_for o d)) (place_behind o d past).laid)
full_after o d past a = sums_end (coding_of o) (place_after o d past) (leaf_count (plan_for o d)) (count_after past) (leaves_after o d past) a.sums

readable : (o : Options) (d : Dtype) (past : List Rows) (size : ℕ) → AreTold o → IsAfter o d past → chunks_checks (coding_of o) (place_after o d past) (last_chunks o d past) ≡ Ok tt → (place_behind o d past).offset ≤ size
    → IsReadable size (serializing o (place_behind o d past) (content_of o d past))
readable o d past size told a checks inside =
    let p = place_behind o d past in
    let plan = plan_for o d in
    let count = leaf_count plan in
    let gs = grouped count p.laid in
    let fit = plan_fits o d told in
    let kept = kept_all (coding_of o) (place_after o d past) (last_chunks o d past) told.aligned a.kept checks in
    let full = full_after o d past a in
    let long = grouped_long count p.laid in
    let typed = layout_type o d past fit full in
    record {
      layout = plan_laid plan d (count_after past) gs fit a.few full (low_grouped count p.laid kept.few) (omega (arith, long));
      stats = subst (λ (e : Dtype). IfSome (content_of o d past).statistics (AreStats e)) (sym typed) (stats_are o.statistics d (count_after past) (rows_after d past) a.typed a.even a.few);
      ids = as_utf8 (array_ids o) (ids_texts o);
      segments = kept_within p size kept inside;
      ordered = kept_ordered p kept;
      own = tt;
      values = told.values;
      distinct = ap are_distinct (own_keys o.metadata) ∙ told.distinct;
    }

supplied_by : (dtype : Option Dtype) (excluded : Bool) (d e : Dtype) → d ≡ e → IsSupplied dtype excluded d → IsSupplied dtype excluded e
supplied_by dtype excluded d e same h = subst (λ (x : Dtype). IsSupplied dtype excluded x) same h

pub written_again : (o : Options) (d : Dtype) (past : List Rows) (parts : Parts) (dtype : Option Dtype) → AreTold o → Accepted o d past → end_checks o d past ≡ Ok parts → IsSupplied dtype o.excludes_dtype d
    → vx_grammar (written o d past) dtype ≡ Ok (content_read parts.content)
written_again o d past parts dtype told accepted checks supplied =
    let a = after o d past told accepted in
    let e = ended o d past parts checks in
    let p = place_behind o d past in
    let front = chunks_sent o d past ++ lead p.taken in
    let out = out_all (sent o d past) (place_after o d past) (encoded_chunks (coding_of o) (last_chunks o d past)) a.out in
    let long : length front ≡ p.offset = length-append (chunks_sent o d past) (lead p.taken) ∙ sym out.offset in
    let size = length (front ++ tail_bytes parts) in
    let inside : p.offset ≤ size = omega (arith, long, length-append front (tail_bytes parts)) in
    let s = serializing o p (content_of o d past) in
    let typed = layout_type o d past (plan_fits o d told) (full_after o d past a) in
    ap (λ file. vx_grammar file dtype) e.file
    ∙ serialized_again front dtype s parts long e.tail (readable o d past size told a e.chunks inside) (supplied_by dtype o.excludes_dtype d (type_of_layout s.content.layout) (sym typed) supplied)
