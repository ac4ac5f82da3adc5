-- What a writer stands for once a chunk was taken in, or was not.
use Rattle.vx_base.specs.Streams.{Took}
use Rattle.std.proofs.lemmas.List.{append-nil}
use Rattle.std.proofs.Common.{take, get_or, ◌≡◌, ℕ, ◌+◌, ◌<◌, ◌≤◌, ◌^◌, Bool, true, false, List, [], ◌∷◌, ◌++◌, length, Option, Some, None, Ok, Err, refl, sym, ap, subst, ◌∙◌, arith}
use Rattle.std.specs.Prelude.{Result, OnOk, OnErr, not, ◌==◌}
use Rattle.std.proofs.lemmas.Bool.{eq-eqb, ne_eqb}
use Rattle.std.specs.List.{All}
use Rattle.vx_data.specs.Dtype.{Dtype, dtype_view}
use Rattle.vx_footer.specs.declared.write_error.WriteError.{WriteError}
use Rattle.vx_rows.specs.Rows.{Rows, rows_len, dtype_of, IsColumn, HasRows}
use Rattle.vx_rows.specs.Parts.{appended}
use Rattle.vx_rows.proofs.ColumnLaws.{appended_type, appended_is_column, column_rows, rows_are}
use Rattle.vx_rows.proofs.KeepLemmas.{new_even}
use Rattle.vx_rows.specs.ReadRows.{no_rows}
use Rattle.vx_write.proofs.GatheredLemmas.{empty_rows, empty_type, pairs_of}
use Rattle.vx_write.specs.declared.file_writer.FileWriter.{FileWriter}
use Rattle.vx_write.specs.Gathered.{gathered, counted_columns, ArePairs}
use Rattle.vx_write.specs.Leaves.{filled, grown, leaf_types, AreSound}
use Rattle.vx_write.specs.Laying.{grouped, leaf_count, AreSums, AreLeaves}
use Rattle.vx_write.proofs.SumsLemmas.{sums_begun, leaves_begun, leaves_next, sums_next}
use Rattle.vx_write.specs.Options.{Options}
use Rattle.vx_write.specs.Placed.{Place, first_place, pieces, with_chunks, IsAlive, Wrote, Failed}
use Rattle.vx_write.specs.Plans.{PlanTree, plan_view, IsFor, leaves_of, columns_of}
use Rattle.vx_write.specs.Sending.{Coding, encoded_chunks, chunks_checks}
use Rattle.vx_write.specs.Standing.{IsSound, Stands, Broken, Refused, PushAnswers, Pushed, Keeps, TakenIn, NotTaken, chunks_for}
use Rattle.vx_write.specs.Taken.{TookAll, TookPart, Checked}
use Rattle.vx_write.specs.Written.{plan_for, coding_of, leaves_after, filled_by, place_after, sent, rows_after, count_after, push_checks, IsChunk}
use Rattle.vx_write.proofs.TakenLemmas.{nothing_taken, all_both, all_part, whole_part, part_first}

-- the chunks that a push fills, and where they come to lie
chunks-are : (o : Options) (d : Dtype) (past : List Rows) (start g : Option (List ℕ)) (w : FileWriter) (c : Rows) → Stands o d past start w g
    → encoded_chunks w.coding (chunks_for w c) ≡ encoded_chunks (coding_of o) (filled_by o d past c)
chunks-are o d past start g w c s =
    ap (λ k. encoded_chunks k (chunks_for w c)) s.coding
    ∙ ap (λ ls. encoded_chunks (coding_of o) (filled ls (columns_of (plan_view w.plan) c))) s.leaves
    ∙ ap (λ (p : PlanTree). encoded_chunks (coding_of o) (filled (leaves_after o d past) (columns_of p c))) s.plan

pub checks_are : (o : Options) (d : Dtype) (past : List Rows) (start g : Option (List ℕ)) (w : FileWriter) (c : Rows) → Stands o d past start w g
    → chunks_checks w.coding w.output (chunks_for w c) ≡ push_checks o d past c
checks_are o d past start g w c s =
    ap (λ k. chunks_checks k w.output (chunks_for w c)) s.coding
    ∙ ap (λ p. chunks_checks (coding_of o) p (chunks_for w c)) s.place
    ∙ ap (λ ls. chunks_checks (coding_of o) (place_after o d past) (filled ls (columns_of (plan_view w.plan) c))) s.leaves
    ∙ ap (λ (p : PlanTree). chunks_checks (coding_of o) (place_after o d past) (filled (leaves_after o d past) (columns_of p c))) s.plan

pieces-are : (o : Options) (d : Dtype) (past : List Rows) (start g : Option (List ℕ)) (w : FileWriter) (c : Rows) → Stands o d past start w g
    → pieces w.output (encoded_chunks w.coding (chunks_for w c)) ≡ pieces (place_after o d past) (encoded_chunks (coding_of o) (filled_by o d past c))
pieces-are o d past start g w c s = ap (λ p. pieces p (encoded_chunks w.coding (chunks_for w c))) s.place ∙ ap (λ cs. pieces (place_after o d past) cs) (chunks-are o d past start g w c s)

pub stands_next : (o : Options) (d : Dtype) (past : List Rows) (start g h : Option (List ℕ)) (w v : FileWriter) (c : Rows) → Stands o d past start w g → TakenIn c w v g h → Stands o d (c ∷ past) start v h
stands_next o d past start g h w v c s t =
    let typed : dtype_of (rows_after d past) ≡ dtype_view w.dtype = s.typed ∙ sym s.dtype in
    let even : IsColumn w.rows (rows_after d past) = subst (λ n. IsColumn n (rows_after d past)) (sym s.rows) s.even in
    let wanted : w.stats.items ≡ gathered w.options.statistics (rows_after d past) = s.stats ∙ sym (ap (λ (p : Options). gathered p.statistics (rows_after d past)) s.options) in
    let same : dtype_of c ≡ d = t.chunk.typed ∙ s.dtype in
    record {
      options = t.keeps.options ∙ s.options;
      dtype = ap dtype_view t.keeps.dtype ∙ s.dtype;
      plan = ap plan_view t.keeps.plan ∙ s.plan;
      coding = t.keeps.coding ∙ s.coding;
      leaves = t.leaves ∙ ap (λ ls. grown ls (columns_of (plan_view w.plan) c)) s.leaves ∙ ap (λ (p : PlanTree). grown (leaves_after o d past) (columns_of p c)) s.plan;
      place = t.wrote.place ∙ ap (λ p. with_chunks p (encoded_chunks w.coding (chunks_for w c))) s.place ∙ ap (λ cs. with_chunks (place_after o d past) cs) (chunks-are o d past start g w c s);
      stats = t.stats (rows_after d past) wanted typed even ∙ ap (λ (p : Options). gathered p.statistics (appended (rows_after d past) c)) s.options;
      typed = appended_type (rows_after d past) c ∙ s.typed;
      even = appended_is_column (count_after past) (rows_len c) (rows_after d past) c (s.typed ∙ sym same) s.even t.chunk.even;
      rows = t.rows ∙ ap (λ n. n + rows_len c) s.rows;
      fine = t.keeps.failed ∙ s.fine;
      took = all_both (sent o d past) (pieces (place_after o d past) (encoded_chunks (coding_of o) (filled_by o d past c))) start g h 0 w.output.taken v.output.taken s.took
          (subst (λ bytes. TookAll bytes g h w.output.taken v.output.taken) (pieces-are o d past start g w c s) t.wrote.took);
    }

pub refused_next : (o : Options) (d : Dtype) (past : List Rows) (start g h : Option (List ℕ)) (w v : FileWriter) (c : Rows) → Stands o d past start w g → NotTaken c w v g h
    → TookPart (sent o d (c ∷ past)) start h 0 v.output.taken
refused_next o d past start g h w v c s t =
    all_part (sent o d past) (pieces (place_after o d past) (encoded_chunks (coding_of o) (filled_by o d past c))) start g h 0 w.output.taken v.output.taken s.took
    (subst (λ bytes. TookPart bytes g h w.output.taken v.output.taken) (pieces-are o d past start g w c s) t.failed.took)

nothing-more : (bytes all : List ℕ) (start g h : Option (List ℕ)) (m n : ℕ) → TookAll all start g 0 m → TookPart bytes g h m n → n ≡ 0 → TookAll all start h 0 n
nothing-more bytes all start g h m n x y none =
    let count : y.count ≡ 0 = omega (arith, none, y.counted) in
    let took : Took [] g h = subst (λ k. Took (take k bytes) g h) count y.took in
    let more : TookAll [] g h m n = record { took = took; counted = omega (arith, y.counted, count) } in
    subst (λ t. TookAll t start h 0 n) (append-nil all) (all_both all [] start g h 0 m n x more)

-- a push that was refused
pub refused_is : (o : Options) (d : Dtype) (past : List Rows) (start g h : Option (List ℕ)) (w v : FileWriter) (b : Bool) (c : Rows) → Stands o d past start w g → NotTaken c w v g h
    → (v.output.taken ≡ 0 → b ≡ false) → (0 < v.output.taken → b ≡ true) → Refused o d c past start (record v { failed = b }) h
refused_is o d past start g h w v b c s t fine broken = record {
  untouched = λ none. let same = t.failed.quiet none in record {
    options = t.keeps.options ∙ s.options;
    dtype = ap dtype_view t.keeps.dtype ∙ s.dtype;
    plan = ap plan_view t.keeps.plan ∙ s.plan;
    coding = t.keeps.coding ∙ s.coding;
    leaves = t.leaves ∙ s.leaves;
    place = same ∙ s.place;
    stats = ap (λ x. x.items) t.stats ∙ s.stats;
    typed = s.typed;
    even = s.even;
    rows = t.rows ∙ s.rows;
    fine = fine none;
    took = nothing-more (pieces w.output (encoded_chunks w.coding (chunks_for w c))) (sent o d past) start g h w.output.taken v.output.taken s.took t.failed.took none;
  };
  begun = λ some. record { failed = broken some; took = refused_next o d past start g h w v c s t };
}

-- what a push answers is what taking the chunk in answers
pub answers_are : (o : Options) (d : Dtype) (past : List Rows) (start g : Option (List ℕ)) (w : FileWriter) (c : Rows) (r : Result (Unit {0}) WriteError) → Stands o d past start w g
    → PushAnswers (dtype_view w.dtype) w.rows (chunks_checks w.coding w.output (chunks_for w c)) c r → PushAnswers d (count_after past) (push_checks o d past c) c r
answers_are o d past start g w c r s a =
    subst (λ t. PushAnswers t (count_after past) (push_checks o d past c) c r) s.dtype
    (subst (λ n. PushAnswers (dtype_view w.dtype) n (push_checks o d past c) c r) s.rows
    (subst (λ k. PushAnswers (dtype_view w.dtype) w.rows k c r) (checks_are o d past start g w c s) a))

-- ---- what each writer is

alive-first : (p : Place) → p ≡ first_place → IsAlive p
alive-first p is = subst IsAlive (sym is) (record { begun = omega arith; counted = omega arith; few = omega arith })

even-none : (d : Dtype) → IsColumn 0 (no_rows d)
even-none d = subst (λ n. IsColumn n (no_rows d)) (empty_rows d) (new_even d (no_rows d) refl)

begun-sums : (w : FileWriter) → IsFor (plan_view w.plan) (dtype_view w.dtype) → w.held.now ≡ leaves_of (plan_view w.plan) (dtype_view w.dtype) → w.output ≡ first_place → w.rows ≡ 0
    → AreSums w.rows (grouped (leaf_count (plan_view w.plan)) w.output.laid) w.held.now
begun-sums w fit leaves place rows =
    let count = leaf_count (plan_view w.plan) in
    subst (λ n. AreSums n (grouped count w.output.laid) w.held.now) (sym rows)
    (subst (λ (p : Place). AreSums 0 (grouped count p.laid) w.held.now) (sym place)
    (subst (λ ls. AreSums 0 (grouped count []) ls) (sym leaves) (sums_begun (plan_view w.plan) (dtype_view w.dtype) fit)))

-- a new writer
pub begun_sound : (w : FileWriter) → IsFor (plan_view w.plan) (dtype_view w.dtype) → w.held.now ≡ leaves_of (plan_view w.plan) (dtype_view w.dtype) → w.output ≡ first_place
    → w.stats.items ≡ gathered w.options.statistics (no_rows (dtype_view w.dtype)) → w.rows ≡ 0 → IsSound w
begun_sound w fit leaves place stats rows = record {
  fit = fit;
  types = ap leaf_types leaves;
  stats = record {
    seen = no_rows (dtype_view w.dtype);
    is = stats;
    typed = empty_type (dtype_view w.dtype);
    even = subst (λ n. IsColumn n (no_rows (dtype_view w.dtype))) (sym rows) (even-none (dtype_view w.dtype));
  };
  leaves = subst AreLeaves (sym leaves) (leaves_begun (plan_view w.plan) (dtype_view w.dtype) fit);
  alive = λ fine. alive-first w.output place;
  sums = λ fine. begun-sums w fit leaves place rows;
}

pub begun_stands : (o : Options) (d : Dtype) (w : FileWriter) (g : Option (List ℕ)) → w.options ≡ o → dtype_view w.dtype ≡ d → plan_view w.plan ≡ plan_for o d → w.coding ≡ coding_of o
    → w.held.now ≡ leaves_of (plan_view w.plan) (dtype_view w.dtype) → w.output ≡ first_place → w.stats.items ≡ gathered w.options.statistics (no_rows (dtype_view w.dtype)) → w.rows ≡ 0 → w.failed ≡ false
    → Stands o d [] g w g
begun_stands o d w g options dtype plan coding leaves place stats rows fine = record {
  options = options;
  dtype = dtype;
  plan = plan;
  coding = coding;
  leaves = leaves ∙ ap (λ p. leaves_of p (dtype_view w.dtype)) plan ∙ ap (λ t. leaves_of (plan_for o d) t) dtype;
  place = place;
  stats = stats ∙ ap (λ (p : Options). gathered p.statistics (no_rows (dtype_view w.dtype))) options ∙ ap (λ t. gathered o.statistics (no_rows t)) dtype;
  typed = empty_type d;
  even = even-none d;
  rows = rows;
  fine = fine;
  took = subst (λ (p : Place). TookAll [] g g 0 p.taken) (sym place) (nothing_taken g 0);
}

-- the columns of rows, and those of a chunk behind them
pub chunk_pairs : (seen c : Rows) (n : ℕ) → dtype_of seen ≡ dtype_of c → IsColumn n seen → IsColumn (rows_len c) c → n + rows_len c < 2 ^ 64 → ArePairs (counted_columns seen) (counted_columns c)
chunk_pairs seen c n typed even more few =
    let rows = column_rows n seen even in
    let long = rows_are n seen rows in
    pairs_of seen c typed (subst (λ m. HasRows m seen) (sym long) rows) (column_rows (rows_len c) c more) (omega (arith, long, few))

taken-sums : (w v : FileWriter) (c : Rows) (g h : Option (List ℕ)) → IsSound w → TakenIn c w v g h → w.failed ≡ false → AreSums v.rows (grouped (leaf_count (plan_view v.plan)) v.output.laid) v.held.now
taken-sums w v c g h s t fine =
    let columns = columns_of (plan_view w.plan) c in
    let count = leaf_count (plan_view w.plan) in
    let chunks = encoded_chunks w.coding (filled w.held.now columns) in
    let made : AreSums (w.rows + rows_len c) (grouped count (with_chunks w.output chunks).laid) (grown w.held.now columns) =
    sums_next w.coding w.output count w.rows (rows_len c) w.held.now columns s.leaves t.columns t.even (s.sums fine) in
    subst (λ p. AreSums v.rows (grouped (leaf_count p) v.output.laid) v.held.now) (sym (ap plan_view t.keeps.plan))
    (subst (λ n. AreSums n (grouped count v.output.laid) v.held.now) (sym t.rows)
    (subst (λ (p : Place). AreSums (w.rows + rows_len c) (grouped count p.laid) v.held.now) (sym t.wrote.place)
    (subst (λ ls. AreSums (w.rows + rows_len c) (grouped count (with_chunks w.output chunks).laid) ls) (sym t.leaves) made)))

-- a writer that took a chunk in
pub taken_sound : (w v : FileWriter) (c : Rows) (g h : Option (List ℕ)) → IsSound w → TakenIn c w v g h → IsSound v
taken_sound w v c g h s t =
    let same : dtype_of s.stats.seen ≡ dtype_of c = s.stats.typed ∙ sym t.chunk.typed in
    let dtype : dtype_view v.dtype ≡ dtype_view w.dtype = ap dtype_view t.keeps.dtype in
    let plan : plan_view v.plan ≡ plan_view w.plan = ap plan_view t.keeps.plan in
    record {
      fit = subst (λ p. IsFor p (dtype_view v.dtype)) (sym plan) (subst (λ d. IsFor (plan_view w.plan) d) (sym dtype) s.fit);
      types = t.types ∙ s.types ∙ sym (ap (λ p. leaf_types (leaves_of p (dtype_view v.dtype))) plan ∙ ap (λ d. leaf_types (leaves_of (plan_view w.plan) d)) dtype);
      stats = record {
        seen = appended s.stats.seen c;
        is = t.stats s.stats.seen s.stats.is s.stats.typed s.stats.even ∙ sym (ap (λ (p : Options). gathered p.statistics (appended s.stats.seen c)) t.keeps.options);
        typed = appended_type s.stats.seen c ∙ s.stats.typed ∙ sym dtype;
        even = subst (λ n. IsColumn n (appended s.stats.seen c)) (sym t.rows) (appended_is_column w.rows (rows_len c) s.stats.seen c same s.stats.even t.chunk.even);
      };
      leaves = subst AreLeaves (sym t.leaves) (leaves_next (rows_len c) w.held.now (columns_of (plan_view w.plan) c) s.leaves t.columns t.even);
      alive = λ fine. t.wrote.alive;
      sums = λ fine. taken-sums w v c g h s t (sym t.keeps.failed ∙ fine);
    }

-- a writer that did not, and is broken unless no byte was written
pub refused_sound : (w v : FileWriter) (b : Bool) (c : Rows) (g h : Option (List ℕ)) → IsSound w → w.failed ≡ false → NotTaken c w v g h → (b ≡ false → v.output.taken ≡ 0) → IsSound (record v { failed = b })
refused_sound w v b c g h s fine t quiet =
    let dtype : dtype_view v.dtype ≡ dtype_view w.dtype = ap dtype_view t.keeps.dtype in
    let plan : plan_view v.plan ≡ plan_view w.plan = ap plan_view t.keeps.plan in
    record {
      fit = subst (λ p. IsFor p (dtype_view v.dtype)) (sym plan) (subst (λ d. IsFor (plan_view w.plan) d) (sym dtype) s.fit);
      types = ap leaf_types t.leaves ∙ s.types ∙ sym (ap (λ p. leaf_types (leaves_of p (dtype_view v.dtype))) plan ∙ ap (λ d. leaf_types (leaves_of (plan_view w.plan) d)) dtype);
      stats = record {
        seen = s.stats.seen;
        is = ap (λ x. x.items) t.stats ∙ s.stats.is ∙ sym (ap (λ (p : Options). gathered p.statistics s.stats.seen) t.keeps.options);
        typed = s.stats.typed ∙ sym dtype;
        even = subst (λ n. IsColumn n s.stats.seen) (sym t.rows) s.stats.even;
      };
      leaves = subst AreLeaves (sym t.leaves) s.leaves;
      alive = λ kept. subst IsAlive (sym (t.failed.quiet (quiet kept))) (s.alive fine);
      sums = λ kept.
          subst (λ p. AreSums v.rows (grouped (leaf_count p) v.output.laid) v.held.now) (sym plan)
          (subst (λ n. AreSums n (grouped (leaf_count (plan_view w.plan)) v.output.laid) v.held.now) (sym t.rows)
          (subst (λ (p : Place). AreSums w.rows (grouped (leaf_count (plan_view w.plan)) p.laid) v.held.now) (sym (t.failed.quiet (quiet kept)))
          (subst (λ ls. AreSums w.rows (grouped (leaf_count (plan_view w.plan)) w.output.laid) ls) (sym t.leaves) (s.sums fine))));
    }

-- ---- the columns of a chunk

pub columns_sound : (n : ℕ) (cs : List Rows) → All (IsColumn n) cs → AreSound cs
columns_sound n cs all = λ k d lt. let c = get_or cs k d in let here = all k d lt in subst (λ m. IsColumn m c) (sym (rows_are n c (column_rows n c here))) here

pub chunk_rows : (n : ℕ) (c : Rows) → IsColumn n c → HasRows n c
chunk_rows n c h = column_rows n c h

-- ---- whether a writer is broken

pub fine_flag : (n m : ℕ) → n ≡ m → m ≡ 0 → not (n == 0) ≡ false
fine_flag n m is none = ap not (eq-eqb n 0 (is ∙ none))

pub broken_flag : (n m : ℕ) → n ≡ m → 0 < m → not (n == 0) ≡ true
broken_flag n m is some = ap not (not-zero n (λ none. omega (arith, is, some, none)))
  where
    not-zero : (k : ℕ) → (k ≡ 0 → ⊥) → (k == 0) ≡ false
    not-zero k h = ne_eqb k 0 h
