-- The checks on the last bytes of a file are those on the file.
use Rattle.std.proofs.Common.{◌≡◌, ℕ, ◌+◌, ◌-◌, ◌<◌, ◌≤◌, Bool, true, false, cond, List, ◌++◌, length, take, drop, refl, sym, ap, ◌∙◌, arith, length-append, Option, Some, None, Result, Ok, Err, ◌⊎◌, inl, inr}
use Rattle.std.specs.Prelude.{nat_le, min, ◌&&◌, ◌||◌, codes, is_some}
use Rattle.std.specs.List.{list_all}
use Rattle.std.specs.Str.{bytes_eq}
use Rattle.std.specs.Int.{w16, from_le_bytes}
use Rattle.std.proofs.lemmas.Bool.Decides.{nat_tests}
use Rattle.std.proofs.lemmas.List.{drop-drop, drop_at}
use Rattle.vx_base.specs.Buffer.{bytes_at}
use Rattle.vx_base.specs.Checks.{◌>>=◌, ◌unless◌, ◌lacking◌, Gives}
use Rattle.vx_data.specs.Dtype.{Dtype}
use Rattle.vx_data.specs.DtypeTable.{dtype_checks}
use Rattle.vx_footer.specs.declared.error.OpenError.{OpenError}
use Rattle.vx_footer.specs.declared.error.OpenError.TheVariants.{TooSmall, BadMagic, BadVersion, PostscriptTooLong, BadTable, Unsupported, TooManyMetadata, EmptyKey, LongKey, DuplicateKey, BadAlignment, MissingDType, BufferTooLong, OutOfBounds, StatsCount, PastEnd, UnknownEncoding, Unordered, OutOfMemory}
use Rattle.vx_footer.specs.declared.error.Which.TheVariants as which
use Rattle.vx_footer.specs.declared.version.FileVersion.{FileVersion}
use Rattle.vx_footer.specs.declared.postscript.Postscript.{Postscript}
use Rattle.vx_footer.specs.declared.postscript.PostscriptSegment.{PostscriptSegment}
use Rattle.vx_footer.specs.declared.deserializer.DeserializeStep.{DeserializeStep}
use Rattle.vx_footer.specs.declared.deserializer.DeserializeStep.TheVariants.{NeedMoreData, NeedFileSize}
use Rattle.vx_footer.specs.FileStats.{FileStats}
use Rattle.vx_footer.specs.Footers.{FooterContent}
use Rattle.vx_footer.specs.Opening.{marker_of, version_of, version_number, postscript_length, ends_with_magic, postscript_bytes, marker_checks, end_checks, postscript_checks, tail_checks, needed_dtype, lesser, least_offset, table_bytes, of_table, dtype_found, statistics_in, statistics_found, is_placed, content_checks, table_checks, Fails}
use Rattle.vx_footer.specs.Steps.{seen_bytes, done_step, tables_step, sized_step, step_of, file_step, IsSuffix, HasEnd, IsOfFile, asks_bytes}

-- what follows a check is the same where it is the same for each value
pub bind-same : {A B E : Type 0} (r : Result A E) (f g : A → Result B E) → ((x : A) → f x ≡ g x) → (r >>= f) ≡ (r >>= g)
bind-same (Ok x) f g h = h x
bind-same (Err e) f g h = refl

pub nat_le-true : (a b : ℕ) → a ≤ b → nat_le a b ≡ true
nat_le-true a b h = grind (arith, nat_tests)

pub nat_le-is : (a b : ℕ) → nat_le a b ≡ true → a ≤ b
nat_le-is a b h = grind (arith, nat_tests)

-- ---- the end marker

-- the postscript's length by a marker
abbrev size_in : List ℕ → ℕ
size_in marker = from_le_bytes w16 (take 2 (drop 2 marker))

-- the checks on the end of a file, by what the marker gives
abbrev ends : Result FileVersion OpenError → Bool → List ℕ → Result (FileVersion × List ℕ) OpenError
ends marks fits bytes = marks >>= λ v. (TooSmall unless fits) >>= λ _. Ok (v, bytes)

ends-same : (marks : Result FileVersion OpenError) (f g : Bool) (b c : List ℕ) → ((v : FileVersion) → marks ≡ Ok v → f ≡ g) → ((v : FileVersion) → marks ≡ Ok v → b ≡ c) → ends marks f b ≡ ends marks g c
ends-same (Ok v) f g b c same_test same_bytes = ap (λ t. ends (Ok v) t b) (same_test v refl) ∙ ap (ends (Ok v) g) (same_bytes v refl)
ends-same (Err e) f g b c same_test same_bytes = refl

end_checks-is : (file : List ℕ) → end_checks file ≡ ends (marker_checks file) (nat_le (postscript_length file + 8) (length file)) (postscript_bytes file)
unfolding end_checks
end_checks-is file = refl

-- the checks on a marker
abbrev marked : Bool → List ℕ → Result FileVersion OpenError
marked whole marker =
    (TooSmall unless whole) >>= λ _. (BadMagic unless bytes_eq (drop 4 marker) (codes "VTXF")) >>= λ _. (BadVersion lacking version_of (from_le_bytes w16 (take 2 marker))) >>= λ v.
    (PostscriptTooLong unless nat_le (size_in marker) 65527) >>= λ _. Ok v

marker_checks-is : (file : List ℕ) → marker_checks file ≡ marked (nat_le 8 (length file)) (marker_of file)
unfolding marker_checks
marker_checks-is file = refl

-- parts of a list that has lost its front
drop-drop_at : {A : Type 0} (n m k : ℕ) (xs : List A) → n + m ≡ k → drop m (drop n xs) ≡ drop k xs
drop-drop_at n m k xs e = drop-drop m n xs ∙ ap (λ i. drop i xs) e

bytes_at-seen : (file : List ℕ) (start offset size : ℕ) → start ≤ offset → bytes_at file offset size ≡ bytes_at (drop start file) (offset - start) size
bytes_at-seen file start offset size h = ap (take size) (sym (drop-drop_at start (offset - start) offset file (omega arith)))

whole-same : (file : List ℕ) (start : ℕ) (seen : List ℕ) → start ≡ 0 → seen ≡ drop start file → end_checks file ≡ end_checks seen
whole-same file start seen none e = ap end_checks (sym (e ∙ ap (λ n. drop n file) none))

long-same : (file : List ℕ) (start : ℕ) (seen : List ℕ) → seen ≡ drop start file → start + length seen ≡ length file → HasEnd seen → end_checks file ≡ end_checks seen
long-same file start seen e total long =
    let whole : 8 ≤ length seen = long.marker in
    let last : marker_of file ≡ marker_of seen = sym (ap (drop (length seen - 8)) e ∙ drop-drop_at start (length seen - 8) (length file - 8) file (omega (arith, whole, total))) in
    let same : postscript_length file ≡ postscript_length seen = ap size_in last in
    let marks : marker_checks file ≡ marker_checks seen =
    marker_checks-is file ∙ ap (marked (nat_le 8 (length file))) last
    ∙ ap (λ t. marked t (marker_of seen)) (nat_le-true 8 (length file) (omega (arith, whole, total)) ∙ sym (nat_le-true 8 (length seen) whole))
    ∙ sym (marker_checks-is seen) in
    let fits : (v : FileVersion) → marker_checks seen ≡ Ok v → nat_le (postscript_length file + 8) (length file) ≡ nat_le (postscript_length seen + 8) (length seen) = λ v h.
    let inside = long.postscript v h in
    nat_le-true (postscript_length file + 8) (length file) (omega (arith, inside, same, total)) ∙ sym (nat_le-true (postscript_length seen + 8) (length seen) inside) in
    let bytes : (v : FileVersion) → marker_checks seen ≡ Ok v → postscript_bytes file ≡ postscript_bytes seen = λ v h.
    let inside = long.postscript v h in
    bytes_at-seen file start (length file - 8 - postscript_length file) (postscript_length file) (omega (arith, inside, same, total))
    ∙ ap (λ b. bytes_at b (length file - 8 - postscript_length file - start) (postscript_length file)) (sym e)
    ∙ ap (λ n. bytes_at seen n (postscript_length file)) (let same_place : length file - 8 - postscript_length file - start ≡ length seen - 8 - postscript_length seen = omega (arith, inside, same, total) in same_place)
    ∙ ap (bytes_at seen (length seen - 8 - postscript_length seen)) same in
    end_checks-is file
    ∙ ap (λ r. ends r (nat_le (postscript_length file + 8) (length file)) (postscript_bytes file)) marks
    ∙ ends-same (marker_checks seen) _ _ _ _ fits bytes
    ∙ sym (end_checks-is seen)

end-seen : (file : List ℕ) (start : ℕ) (seen : List ℕ) → IsSuffix file start seen → (start ≡ 0) ⊎ HasEnd seen → end_checks file ≡ end_checks seen
end-seen file start seen h enough = elim enough [ inl none ↦ whole-same file start seen none h.bytes | inr long ↦ long-same file start seen h.bytes h.total long ]

pub tail-seen : (dtype : Option Dtype) (file : List ℕ) (start : ℕ) (seen : List ℕ) → IsSuffix file start seen → (start ≡ 0) ⊎ HasEnd seen → tail_checks dtype file ≡ tail_checks dtype seen
unfolding tail_checks
tail-seen dtype file start seen h enough =
    ap (λ r. r >>= λ end. postscript_checks end.0 end.1 >>= λ p. (MissingDType unless (is_some dtype || is_some p.dtype)) >>= λ _. Ok (end.0, p)) (end-seen file start seen h enough)

-- ---- the tables

abbrev Cut : Type 0
Cut = PostscriptSegment → Option (List ℕ)

piece-seen : (file : List ℕ) (start : ℕ) (seen : List ℕ) (s : PostscriptSegment) → IsSuffix file start seen → start ≤ s.offset → table_bytes file s ≡ seen_bytes start seen s
piece-seen file start seen s h le =
    let within : nat_le (s.offset + s.length) (length file) ≡ nat_le (s.offset + s.length) (start + length seen) = ap (nat_le (s.offset + s.length)) (sym h.total) in
    let bytes : bytes_at file s.offset s.length ≡ bytes_at seen (s.offset - start) s.length = bytes_at-seen file start s.offset s.length le ∙ ap (λ b. bytes_at b (s.offset - start) s.length) (sym h.bytes) in
    ap (λ t. cond t (Some (bytes_at file s.offset s.length)) None) within
    ∙ ap (λ b. cond (nat_le (s.offset + s.length) (start + length seen)) (Some b) None) bytes
    ∙ sym (ap (λ t. cond (t && nat_le (s.offset + s.length) (start + length seen)) (Some (bytes_at seen (s.offset - start) s.length)) None) (nat_le-true start s.offset le))

dtype-same : (p q : Cut) (dtype : Option Dtype) (place : Option PostscriptSegment) → ((s : PostscriptSegment) → needed_dtype dtype place ≡ Some s → p s ≡ q s) → dtype_found p dtype place ≡ dtype_found q dtype place
dtype-same p q (Some d) place h = refl
dtype-same p q None None h = refl
dtype-same p q None (Some s) h = ap (λ o. (OutOfBounds lacking o) >>= λ bytes. of_table which.DType (dtype_checks bytes)) (h s refl)

statistics-same : (p q : Cut) (d : Dtype) (place : Option PostscriptSegment) → ((s : PostscriptSegment) → place ≡ Some s → p s ≡ q s) → statistics_found p d place ≡ statistics_found q d place
statistics-same p q d None h = refl
statistics-same p q d (Some s) h = ap (λ o. (OutOfBounds lacking o) >>= λ bytes. statistics_in d bytes >>= λ stats. Ok (Some stats)) (h s refl)

-- the checks behind the statistics
abbrev after_statistics : FileVersion → Postscript → Dtype → Option (List ℕ) → Option (List ℕ) → Option FileStats → Result FooterContent OpenError
after_statistics version ps d footer layout statistics =
    (BadAlignment unless list_all is_placed ps.metadata) >>= λ _. (OutOfBounds lacking footer) >>= λ footer_bytes. (OutOfBounds lacking layout) >>= λ layout_bytes.
    content_checks version d statistics ps.metadata footer_bytes layout_bytes

abbrev after_dtype : Cut → FileVersion → Postscript → Dtype → Result FooterContent OpenError
after_dtype p version ps d = statistics_found p d ps.statistics >>= after_statistics version ps d (p ps.footer) (p ps.layout)

after_dtype-same : (p q : Cut) (version : FileVersion) (ps : Postscript) (d : Dtype) → ((s : PostscriptSegment) → ps.statistics ≡ Some s → p s ≡ q s) → p ps.footer ≡ q ps.footer → p ps.layout ≡ q ps.layout
    → after_dtype p version ps d ≡ after_dtype q version ps d
after_dtype-same p q version ps d statistics footer layout =
    ap (λ r. r >>= after_statistics version ps d (p ps.footer) (p ps.layout)) (statistics-same p q d ps.statistics statistics)
    ∙ ap (λ o. statistics_found q d ps.statistics >>= after_statistics version ps d o (p ps.layout)) footer
    ∙ ap (λ o. statistics_found q d ps.statistics >>= after_statistics version ps d (q ps.footer) o) layout

table_checks-is : (p : Cut) (dtype : Option Dtype) (version : FileVersion) (ps : Postscript) → table_checks p dtype version ps ≡ (dtype_found p dtype ps.dtype >>= after_dtype p version ps)
unfolding table_checks
table_checks-is p dtype version ps = refl

table_checks-same : (p q : Cut) (dtype : Option Dtype) (version : FileVersion) (ps : Postscript) → ((s : PostscriptSegment) → needed_dtype dtype ps.dtype ≡ Some s → p s ≡ q s)
    → ((s : PostscriptSegment) → ps.statistics ≡ Some s → p s ≡ q s) → p ps.footer ≡ q ps.footer → p ps.layout ≡ q ps.layout → table_checks p dtype version ps ≡ table_checks q dtype version ps
table_checks-same p q dtype version ps named statistics footer layout =
    table_checks-is p dtype version ps
    ∙ ap (λ r. r >>= after_dtype p version ps) (dtype-same p q dtype ps.dtype named)
    ∙ bind-same (dtype_found q dtype ps.dtype) (after_dtype p version ps) (after_dtype q version ps) (λ d. after_dtype-same p q version ps d statistics footer layout)
    ∙ sym (table_checks-is q dtype version ps)

lesser-below : (o : Option PostscriptSegment) (n : ℕ) → lesser o n ≤ n
lesser-below None n = omega arith
lesser-below (Some s) n = omega arith

lesser-place : (o : Option PostscriptSegment) (n : ℕ) (s : PostscriptSegment) → o ≡ Some s → lesser o n ≤ s.offset
lesser-place None n s h = absurd cc
lesser-place (Some t) n s h = let same : t ≡ s = cc in omega (arith, ap (λ (u : PostscriptSegment). u.offset) same)

tables-seen : (dtype : Option Dtype) (file : List ℕ) (start : ℕ) (seen : List ℕ) (version : FileVersion) (ps : Postscript) → IsSuffix file start seen → start ≤ least_offset dtype ps
    → table_checks (table_bytes file) dtype version ps ≡ table_checks (seen_bytes start seen) dtype version ps
tables-seen dtype file start seen version ps h le =
    let tables = min ps.layout.offset ps.footer.offset in
    let rest = lesser ps.statistics tables in
    let to_rest : start ≤ rest = omega (arith, le, lesser-below (needed_dtype dtype ps.dtype) rest) in
    let to_tables : start ≤ tables = omega (arith, to_rest, lesser-below ps.statistics tables) in
    table_checks-same (table_bytes file) (seen_bytes start seen) dtype version ps
    (λ s is. piece-seen file start seen s h (omega (arith, le, lesser-place (needed_dtype dtype ps.dtype) rest s is)))
    (λ s is. piece-seen file start seen s h (omega (arith, to_rest, lesser-place ps.statistics tables s is)))
    (piece-seen file start seen ps.footer h (omega (arith, to_tables)))
    (piece-seen file start seen ps.layout h (omega (arith, to_tables)))

-- ---- the step

abbrev chosen : Bool → ℕ → ℕ → Postscript → Result FooterContent OpenError → Result DeserializeStep OpenError
chosen test start least ps footer = cond test (done_step ps footer) (Ok (NeedMoreData least (start - least)))

chosen-same : (test : Bool) (start least : ℕ) (ps : Postscript) (x y : Result FooterContent OpenError) → (test ≡ true → x ≡ y) → chosen test start least ps x ≡ chosen test start least ps y
chosen-same true start least ps x y h = ap (done_step ps) (h refl)
chosen-same false start least ps x y h = refl

tables_step-seen : (dtype : Option Dtype) (file : List ℕ) (start : ℕ) (seen : List ℕ) (version : FileVersion) (ps : Postscript) → IsSuffix file start seen
    → tables_step dtype start (table_bytes file) version ps ≡ tables_step dtype start (seen_bytes start seen) version ps
tables_step-seen dtype file start seen version ps h =
    chosen-same (nat_le start (least_offset dtype ps)) start (least_offset dtype ps) ps _ _ (λ test. tables-seen dtype file start seen version ps h (nat_le-is _ _ test))

sized-seen : (dtype : Option Dtype) (file : List ℕ) (start : ℕ) (seen : List ℕ) (version : FileVersion) (ps : Postscript) → IsSuffix file start seen
    → tables_step dtype start (table_bytes file) version ps ≡ sized_step dtype (Some (length file)) seen version ps
sized-seen dtype file start seen version ps h =
    let fits : nat_le (length seen) (length file) ≡ true = nat_le-true _ _ (omega (arith, h.total)) in
    let begins : start ≡ length file - length seen = omega (arith, h.total) in
    tables_step-seen dtype file start seen version ps h
    ∙ ap (λ n. tables_step dtype n (seen_bytes n seen) version ps) begins
    ∙ sym (ap (λ t. (BufferTooLong unless t) >>= λ _. tables_step dtype (length file - length seen) (seen_bytes (length file - length seen) seen) version ps) fits)

-- the step that the last bytes of a file lead to is the file's
pub step-seen : (dtype : Option Dtype) (file : List ℕ) (start : ℕ) (seen : List ℕ) → IsSuffix file start seen → (start ≡ 0) ⊎ HasEnd seen → file_step dtype file start ≡ step_of dtype (Some (length file)) seen
unfolding file_step step_of
step-seen dtype file start seen h enough =
    ap (λ r. r >>= λ t. tables_step dtype start (table_bytes file) t.0 t.1) (tail-seen dtype file start seen h enough)
    ∙ bind-same (tail_checks dtype seen) _ _ (λ t. sized-seen dtype file start seen t.0 t.1 h)

-- ---- which bytes are enough

abbrev tests : Bool → Bool → Option FileVersion → Bool → Result FileVersion OpenError
tests whole magic version short = (TooSmall unless whole) >>= λ _. (BadMagic unless magic) >>= λ _. (BadVersion lacking version) >>= λ v. (PostscriptTooLong unless short) >>= λ _. Ok v

was_short : (whole magic : Bool) (version : Option FileVersion) (short : Bool) (v : FileVersion) → tests whole magic version short ≡ Ok v → short ≡ true
was_short false magic version short v h = absurd cc
was_short true false version short v h = absurd cc
was_short true true None short v h = absurd cc
was_short true true (Some w) false v h = absurd cc
was_short true true (Some w) true v h = refl

marker-short : (seen : List ℕ) (v : FileVersion) → marker_checks seen ≡ Ok v → postscript_length seen ≤ 65527
unfolding marker_checks
marker-short seen v h = nat_le-is _ _ (was_short (nat_le 8 (length seen)) (ends_with_magic seen) (version_of (version_number seen)) (nat_le (postscript_length seen) 65527) v h)

-- the bytes that the longest postscript needs
pub long_has_end : (seen : List ℕ) → 65535 ≤ length seen → HasEnd seen
long_has_end seen long = record { marker = omega (arith, long); postscript = λ v h. omega (arith, long, marker-short seen v h) }

-- bytes have an end, or are too small
abbrev Enough : List ℕ → Type 0
Enough seen = HasEnd seen ⊎ (end_checks seen ≡ Err TooSmall)

marked_enough : (seen : List ℕ) (fits : Bool) → 8 ≤ length seen → nat_le (postscript_length seen + 8) (length seen) ≡ fits → (marks : Result FileVersion OpenError) → marker_checks seen ≡ marks → Enough seen
marked_enough seen true long fit marks is = inl (record { marker = long; postscript = λ v h. nat_le-is _ _ fit })
marked_enough seen false long fit (Err e) is = inl (record { marker = long; postscript = λ v h. absurd (apart (sym is ∙ h)) })
  where
    apart : {v : FileVersion} {e : OpenError} → (let none : Result FileVersion OpenError = Err e in none) ≡ Ok v → ⊥
    apart h = cc
marked_enough seen false long fit (Ok v) is = inr (end_checks-is seen ∙ ap (λ r. ends r (nat_le (postscript_length seen + 8) (length seen)) (postscript_bytes seen)) is ∙ ap (λ t. ends (Ok v) t (postscript_bytes seen)) fit)

small_marker : (seen : List ℕ) → nat_le 8 (length seen) ≡ false → end_checks seen ≡ Err TooSmall
small_marker seen short =
    end_checks-is seen
    ∙ ap (λ r. ends r (nat_le (postscript_length seen + 8) (length seen)) (postscript_bytes seen)) (marker_checks-is seen ∙ ap (λ t. marked t (marker_of seen)) short)

whole_enough : (seen : List ℕ) (whole : Bool) → nat_le 8 (length seen) ≡ whole → Enough seen
whole_enough seen true is = marked_enough seen (nat_le (postscript_length seen + 8) (length seen)) (nat_le-is _ _ is) refl (marker_checks seen) refl
whole_enough seen false is = inr (small_marker seen is)

pub enough : (seen : List ℕ) → Enough seen
enough seen = whole_enough seen (nat_le 8 (length seen)) refl

-- bytes that are too small have no step
small_step : (dtype : Option Dtype) (size : Option ℕ) (seen : List ℕ) → end_checks seen ≡ Err TooSmall → step_of dtype size seen ≡ Err TooSmall
unfolding step_of tail_checks
small_step dtype size seen h = rw h refl

abbrev Apart : Result DeserializeStep OpenError → Type 0
Apart answer = answer ≡ Err TooSmall → ⊥

-- where the bytes are not too small, their step is the file's
pub step-of_file : (dtype : Option Dtype) (file : List ℕ) (start : ℕ) (seen : List ℕ) (answer : Result DeserializeStep OpenError) → IsSuffix file start seen
    → step_of dtype (Some (length file)) seen ≡ answer → Apart answer → file_step dtype file start ≡ answer
step-of_file dtype file start seen answer h is apart = elim (enough seen) [
  | inl has ↦ step-seen dtype file start seen h (inr has) ∙ is
  | inr small ↦ absurd (apart (sym is ∙ small_step dtype (Some (length file)) seen small))
]

-- what a deserializer answers is true of the file
pub answers_of_file : (dtype : Option Dtype) (file : List ℕ) (start : ℕ) (seen : List ℕ) (result : Result DeserializeStep OpenError) → IsSuffix file start seen
    → Gives Fails (λ step. step) result (step_of dtype (Some (length file)) seen) → IsOfFile dtype file start result
answers_of_file dtype file start seen (Ok step) h is = step-of_file dtype file start seen (Ok step) h is (λ e. cc)
answers_of_file dtype file start seen (Err TooSmall) h is = tt
answers_of_file dtype file start seen (Err BadMagic) h is = step-of_file dtype file start seen (Err BadMagic) h is (λ e. cc)
answers_of_file dtype file start seen (Err BadVersion) h is = step-of_file dtype file start seen (Err BadVersion) h is (λ e. cc)
answers_of_file dtype file start seen (Err PostscriptTooLong) h is = step-of_file dtype file start seen (Err PostscriptTooLong) h is (λ e. cc)
answers_of_file dtype file start seen (Err Unsupported) h is = step-of_file dtype file start seen (Err Unsupported) h is (λ e. cc)
answers_of_file dtype file start seen (Err TooManyMetadata) h is = step-of_file dtype file start seen (Err TooManyMetadata) h is (λ e. cc)
answers_of_file dtype file start seen (Err EmptyKey) h is = step-of_file dtype file start seen (Err EmptyKey) h is (λ e. cc)
answers_of_file dtype file start seen (Err LongKey) h is = step-of_file dtype file start seen (Err LongKey) h is (λ e. cc)
answers_of_file dtype file start seen (Err DuplicateKey) h is = step-of_file dtype file start seen (Err DuplicateKey) h is (λ e. cc)
answers_of_file dtype file start seen (Err BadAlignment) h is = step-of_file dtype file start seen (Err BadAlignment) h is (λ e. cc)
answers_of_file dtype file start seen (Err MissingDType) h is = step-of_file dtype file start seen (Err MissingDType) h is (λ e. cc)
answers_of_file dtype file start seen (Err BufferTooLong) h is = step-of_file dtype file start seen (Err BufferTooLong) h is (λ e. cc)
answers_of_file dtype file start seen (Err OutOfBounds) h is = step-of_file dtype file start seen (Err OutOfBounds) h is (λ e. cc)
answers_of_file dtype file start seen (Err StatsCount) h is = step-of_file dtype file start seen (Err StatsCount) h is (λ e. cc)
answers_of_file dtype file start seen (Err PastEnd) h is = step-of_file dtype file start seen (Err PastEnd) h is (λ e. cc)
answers_of_file dtype file start seen (Err UnknownEncoding) h is = step-of_file dtype file start seen (Err UnknownEncoding) h is (λ e. cc)
answers_of_file dtype file start seen (Err Unordered) h is = step-of_file dtype file start seen (Err Unordered) h is (λ e. cc)
answers_of_file dtype file start seen (Err OutOfMemory) h is = tt
answers_of_file dtype file start seen (Err (BadTable w)) h is = step-of_file dtype file start seen (Err (BadTable w)) h is (λ e. cc)

-- ---- no second request for bytes

-- the bytes of a file from an offset on are asked, before those that are seen
pub record Asked (dtype : Option Dtype) (size : ℕ) (seen : List ℕ) (offset len : ℕ) : Type 0 where
  pub tail : FileVersion × Postscript
  pub checked : tail_checks dtype seen ≡ Ok tail
  pub short : length seen ≤ size
  pub least : offset ≡ least_offset dtype tail.1
  pub before : offset < size - length seen
  pub rest : len ≡ size - length seen - offset

nat_le-false : (a b : ℕ) → nat_le a b ≡ false → b < a
nat_le-false a b h = grind (arith, nat_tests)

abbrev asking : ℕ → ℕ → Result DeserializeStep OpenError
asking offset len = Ok (NeedMoreData offset len)

not_done : (ps : Postscript) (footer : Result FooterContent OpenError) (offset len : ℕ) → done_step ps footer ≡ asking offset len → ⊥
not_done ps (Ok f) offset len h = cc
not_done ps (Err e) offset len h = cc

record Chosen (start least offset len : ℕ) : Type 0 where
  same : offset ≡ least
  before : least < start
  size : len ≡ start - offset

was_chosen : (test : Bool) (start least : ℕ) (ps : Postscript) (footer : Result FooterContent OpenError) (offset len : ℕ) → nat_le start least ≡ test → chosen test start least ps footer ≡ asking offset len → Chosen start least offset len
was_chosen true start least ps footer offset len t h = absurd (not_done ps footer offset len h)
was_chosen false start least ps footer offset len t h =
    let same : least ≡ offset = cc in
    let size : start - least ≡ len = cc in
    record { same = sym same; before = nat_le-false start least t; size = sym size ∙ ap (λ n. start - n) same }

was_sized : (fits : Bool) (dtype : Option Dtype) (size : ℕ) (seen : List ℕ) (tail : FileVersion × Postscript) (offset len : ℕ) → nat_le (length seen) size ≡ fits → tail_checks dtype seen ≡ Ok tail
    → ((BufferTooLong unless fits) >>= λ _. tables_step dtype (size - length seen) (seen_bytes (size - length seen) seen) tail.0 tail.1) ≡ asking offset len → Asked dtype size seen offset len
was_sized false dtype size seen tail offset len t checked h = absurd cc
was_sized true dtype size seen tail offset len t checked h =
    let c = was_chosen (nat_le (size - length seen) (least_offset dtype tail.1)) (size - length seen) (least_offset dtype tail.1) tail.1 _ offset len refl h in
    record { tail = tail; checked = checked; short = nat_le-is _ _ t; least = c.same; before = omega (arith, c.same, c.before); rest = c.size }

was_checked : (r : Result (FileVersion × Postscript) OpenError) (dtype : Option Dtype) (size : ℕ) (seen : List ℕ) (offset len : ℕ) → tail_checks dtype seen ≡ r
    → (r >>= λ t. sized_step dtype (Some size) seen t.0 t.1) ≡ asking offset len → Asked dtype size seen offset len
was_checked (Err e) dtype size seen offset len is h = absurd cc
was_checked (Ok tail) dtype size seen offset len is h = was_sized (nat_le (length seen) size) dtype size seen tail offset len refl is h

pub was_asked : (dtype : Option Dtype) (size : ℕ) (seen : List ℕ) (offset len : ℕ) → step_of dtype (Some size) seen ≡ Ok (NeedMoreData offset len) → Asked dtype size seen offset len
unfolding step_of
was_asked dtype size seen offset len h = was_checked (tail_checks dtype seen) dtype size seen offset len refl h

small_tail : (dtype : Option Dtype) (seen : List ℕ) → end_checks seen ≡ Err TooSmall → tail_checks dtype seen ≡ Err TooSmall
unfolding tail_checks
small_tail dtype seen h = rw h refl

-- bytes whose tail passes have an end
pub passed_has_end : (dtype : Option Dtype) (seen : List ℕ) (tail : FileVersion × Postscript) → tail_checks dtype seen ≡ Ok tail → HasEnd seen
passed_has_end dtype seen tail h = elim (enough seen) [ inl has ↦ has | inr small ↦ absurd (apart (sym h ∙ small_tail dtype seen small)) ]
  where
    apart : {t : FileVersion × Postscript} → (let ok : Result (FileVersion × Postscript) OpenError = Ok t in ok) ≡ Err TooSmall → ⊥
    apart h = cc

done_asks_nothing : (ps : Postscript) (footer : Result FooterContent OpenError) → asks_bytes (done_step ps footer) ≡ false
done_asks_nothing ps (Ok f) = refl
done_asks_nothing ps (Err e) = refl

-- given the bytes that were asked, no bytes are asked again
pub no_second_request : (dtype : Option Dtype) (size : ℕ) (seen more : List ℕ) (offset len : ℕ) → step_of dtype (Some size) seen ≡ Ok (NeedMoreData offset len) → length more ≡ len
    → asks_bytes (step_of dtype (Some size) (more ++ seen)) ≡ false
unfolding step_of
no_second_request dtype size seen more offset len h as_many =
    let a = was_asked dtype size seen offset len h in
    let file = more ++ seen in
    let total : length more + length seen ≡ length file = sym (length-append more seen) in
    let suffix : IsSuffix file (length more) seen = record { bytes = sym (drop_at more seen (length more) refl); total = total } in
    let checked : tail_checks dtype file ≡ Ok a.tail = tail-seen dtype file (length more) seen suffix (inr (passed_has_end dtype seen a.tail a.checked)) ∙ a.checked in
    let fits : nat_le (length file) size ≡ true = nat_le-true _ _ (omega (arith, total, as_many, a.rest, a.before, a.short)) in
    let begins : size - length file ≡ offset = omega (arith, total, as_many, a.rest, a.before, a.short) in
    let reached : nat_le (size - length file) (least_offset dtype a.tail.1) ≡ true = nat_le-true _ _ (omega (arith, begins, a.least)) in
    let footer = table_checks (seen_bytes (size - length file) file) dtype a.tail.0 a.tail.1 in
    ap (λ r. asks_bytes (r >>= λ t. sized_step dtype (Some size) file t.0 t.1)) checked
    ∙ ap (λ t. asks_bytes ((BufferTooLong unless t) >>= λ _. tables_step dtype (size - length file) (seen_bytes (size - length file) file) a.tail.0 a.tail.1)) fits
    ∙ ap (λ t. asks_bytes (chosen t (size - length file) (least_offset dtype a.tail.1) a.tail.1 footer)) reached
    ∙ done_asks_nothing a.tail.1 footer

-- where the size is supplied, it is not asked
not_size_done : (ps : Postscript) (footer : Result FooterContent OpenError) → done_step ps footer ≡ Ok NeedFileSize → ⊥
not_size_done ps (Ok f) h = cc
not_size_done ps (Err e) h = cc

not_size_chosen : (test : Bool) (start least : ℕ) (ps : Postscript) (footer : Result FooterContent OpenError) → chosen test start least ps footer ≡ Ok NeedFileSize → ⊥
not_size_chosen true start least ps footer h = not_size_done ps footer h
not_size_chosen false start least ps footer h = cc

not_size_sized : (fits : Bool) (dtype : Option Dtype) (start : ℕ) (piece : Cut) (tail : FileVersion × Postscript) → ((BufferTooLong unless fits) >>= λ _. tables_step dtype start piece tail.0 tail.1) ≡ Ok NeedFileSize → ⊥
not_size_sized false dtype start piece tail h = cc
not_size_sized true dtype start piece tail h = not_size_chosen (nat_le start (least_offset dtype tail.1)) start (least_offset dtype tail.1) tail.1 _ h

not_size_checked : (r : Result (FileVersion × Postscript) OpenError) (dtype : Option Dtype) (size : ℕ) (seen : List ℕ) → (r >>= λ t. sized_step dtype (Some size) seen t.0 t.1) ≡ Ok NeedFileSize → ⊥
not_size_checked (Err e) dtype size seen h = cc
not_size_checked (Ok tail) dtype size seen h = not_size_sized (nat_le (length seen) size) dtype (size - length seen) (seen_bytes (size - length seen) seen) tail h

pub size_not_asked : (dtype : Option Dtype) (size : ℕ) (seen : List ℕ) → step_of dtype (Some size) seen ≡ Ok NeedFileSize → ⊥
unfolding step_of
size_not_asked dtype size seen h = not_size_checked (tail_checks dtype seen) dtype size seen h
