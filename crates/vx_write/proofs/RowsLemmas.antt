-- Chunks that are pushed one after the other, and what writing them answers.
use Rattle.std.proofs.Common.{◌≡◌, ℕ, zero, suc, ◌+◌, ◌<◌, ◌≤◌, ◌^◌, true, false, List, [], ◌∷◌, ◌++◌, length, drop, get_or, Option, Ok, Err, refl, sym, ap, subst, ◌∙◌, arith, append_assoc, add-one, drop-cons, inl, inr}
use Rattle.std.specs.Prelude.{◌⊎◌, Result, IsOk, nat_lt}
use Rattle.std.proofs.lemmas.Bool.Decides.{nat_tests}
use Rattle.std.proofs.lemmas.List.{append-nil}
use Rattle.vx_base.specs.Streams.{SinkState, TookPrefix}
use Rattle.vx_data.specs.Dtype.{Dtype}
use Rattle.vx_footer.specs.declared.write_error.WriteError.{WriteError}
use Rattle.vx_footer.specs.declared.write_error.WriteError.TheVariants.{ChunkDType, RowsOverflow, WriteFault, OutOfMemory}
use Rattle.vx_footer.specs.Serializing.{Parts}
use Rattle.vx_rows.specs.declared.column.Column.{Column}
use Rattle.vx_rows.specs.Rows.{Rows, rows_len, column_view}
use Rattle.vx_write.specs.declared.file_writer.FileWriter.{FileWriter}
use Rattle.vx_write.specs.declared.summary.WriteSummary.{WriteSummary}
use Rattle.vx_write.specs.Chunks.{columns_seen}
use Rattle.vx_write.specs.OpensAgain.{Accepted}
use Rattle.vx_write.specs.Options.{Options}
use Rattle.vx_write.specs.RowsWritten.{pushes, Then, ChunksAnswer, RowsAnswer, Pushing, PushingEnds, CutShort, RowsLeave}
use Rattle.vx_write.specs.Standing.{Stands, Broken, Refused, Pushed, PushAnswers, Ended, NotEnded, Finished}
use Rattle.vx_write.specs.Taken.{TookAll, TookPart, Checked}
use Rattle.vx_write.specs.Written.{begin_checks, sent, written, count_after, push_checks, end_checks, IsChunk}
use Rattle.vx_write.proofs.TakenLemmas.{whole_part}

abbrev Answer : Type 0
Answer = Result WriteSummary WriteError

-- ---- a refusal that is neither a fault nor want of memory

abbrev IsPlain : WriteError → Type 0 → Type 0
IsPlain e P = (e ≡ WriteFault → ⊥) → (e ≡ OutOfMemory → ⊥) → P

then-plain : (e : WriteError) (r : Result (Unit {0}) WriteError) (next : Type 0) → (IsPlain e next → next) → IsPlain e (Then {A = WriteSummary} (Err e) r next) → Then {A = WriteSummary} (Err e) r next
then-plain e (Ok x) next lazy h = lazy h
then-plain e (Err x) next lazy h = λ f m. h f m f m

chunks-plain : (o : Options) (d : Dtype) (past cs : List Rows) (e : WriteError) → IsPlain e (ChunksAnswer {A = WriteSummary} o d past cs (Err e)) → ChunksAnswer {A = WriteSummary} o d past cs (Err e)
chunks-plain o d past [] e h = λ f m. h f m f m
chunks-plain o d past (c ∷ cs) e h = (
  (λ other. λ f m. (h f m).0 other f m),
  (λ is many. λ f m. (h f m).1 is many f m),
  (λ is few. then-plain e (push_checks o d past c) (ChunksAnswer {A = WriteSummary} o d (c ∷ past) cs (Err e)) (chunks-plain o d (c ∷ past) cs e) (λ f m. (h f m).2 is few)),
)

-- ---- one push

refused-then : (e : WriteError) (r : Result (Unit {0}) WriteError) (next : Type 0) → (IsPlain e next → next) → Checked {A = Unit {0}} (Err e) r → Then {A = WriteSummary} (Err e) r next
refused-then e (Ok x) next lazy h = lazy (λ f m. absurd (ok-err (h f m)))
  where
    ok-err : Ok x ≡ Err e → ⊥
    ok-err is = cc
refused-then e (Err x) next lazy h = λ f m. h f m

refused-is : (e x : WriteError) → ◌≡◌ {A = Result (Unit {0}) WriteError} (Err e) (Err x) → Checked {A = WriteSummary} {B = Unit {0}} (Err e) (Err x)
refused-is e x h = λ f m. sym h

refused-answer : (o : Options) (d : Dtype) (past cs : List Rows) (c : Rows) (e : WriteError) → PushAnswers d (count_after past) (push_checks o d past c) c (Err e) → ChunksAnswer {A = WriteSummary} o d past (c ∷ cs) (Err e)
refused-answer o d past cs c e a = (
  (λ other. refused-is e ChunkDType (a.typed other)),
  (λ is many. refused-is e RowsOverflow (a.few is many)),
  (λ is few. refused-then e (push_checks o d past c) (ChunksAnswer {A = WriteSummary} o d (c ∷ past) cs (Err e)) (chunks-plain o d (c ∷ past) cs e) (a.checked is few)),
)

passed-then : (answer : Answer) (r : Result (Unit {0}) WriteError) (next : Type 0) → IsOk r → next → Then answer r next
passed-then answer (Ok x) next ok h = h
passed-then answer (Err x) next ok h = cc

no-refusal : (x : Unit {0}) (e : WriteError) → Ok x ≡ Err e → ⊥
no-refusal x e h = cc

accepted-answer : (o : Options) (d : Dtype) (past cs : List Rows) (c : Rows) (x : Unit {0}) (answer : Answer) → PushAnswers d (count_after past) (push_checks o d past c) c (Ok x) → ChunksAnswer o d (c ∷ past) cs answer
    → ChunksAnswer o d past (c ∷ cs) answer
accepted-answer o d past cs c x answer a next = (
  (λ other. absurd (other a.accepted)),
  (λ is many. absurd (no-refusal x RowsOverflow (a.few is many))),
  (λ is few. passed-then answer (push_checks o d past c) (ChunksAnswer o d (c ∷ past) cs answer) (a.checked is few) next),
)

-- a chunk more that was not refused
is-passed : (r : Result (Unit {0}) WriteError) → IsOk r → r ≡ Ok tt
is-passed (Ok tt) ok = refl
is-passed (Err e) ok = cc

few-or-many : (n m : ℕ) → (m ≤ n → ⊥) → n < m
few-or-many n m not_many = elim (nat_lt n m) as (λ b. nat_lt n m ≡ b → n < m) [
  | true ↦ λ is. less n m is
  | false ↦ λ is. absurd (not_many (no-less n m is))
] refl
  where
    less : (a b : ℕ) → nat_lt a b ≡ true → a < b
    less a b h = grind (arith, nat_tests)

    no-less : (a b : ℕ) → nat_lt a b ≡ false → b ≤ a
    no-less a b h = grind (arith, nat_tests)

pub accepted-more : (o : Options) (d : Dtype) (past : List Rows) (c : Rows) (x : Unit {0}) → Accepted o d past → PushAnswers d (count_after past) (push_checks o d past c) c (Ok x) → Accepted o d (c ∷ past)
accepted-more o d past c x h a =
    let chunk = a.accepted in
    let few = few-or-many (count_after past + rows_len c) (2 ^ 64) (λ many. no-refusal x RowsOverflow (a.few chunk many)) in
    (h, chunk, few, is-passed (push_checks o d past c) (a.checked chunk few))

-- ---- pushes

pub pushes-last : (past front : List Rows) (c : Rows) → pushes past (front ++ c ∷ []) ≡ c ∷ pushes past front
pushes-last past [] c = refl
pushes-last past (x ∷ front) c = pushes-last (x ∷ past) front c

pub pushing_start : (o : Options) (d : Dtype) (all : List Rows) (start : Option (List ℕ)) (w : FileWriter) (g : Option (List ℕ)) → Stands o d [] start w g → Pushing o d all all start w g
pushing_start o d all start w g s = record { front = []; split = refl; stands = s; accepted = tt; answers = λ answer h. h }

pub pushing_step : (o : Options) (d : Dtype) (all cs : List Rows) (c : Rows) (start g h : Option (List ℕ)) (w v : FileWriter) (x : Unit {0}) (p : Pushing o d all (c ∷ cs) start w g)
    → Pushed o d (pushes [] p.front) c start v h (Ok x) → Pushing o d all cs start v h
pushing_step o d all cs c start g h w v x p pushed =
    let last = pushes-last [] p.front c in
    record {
      front = p.front ++ c ∷ [];
      split = p.split ∙ sym (append_assoc p.front (c ∷ []) cs);
      stands = subst (λ past. Stands o d past start v h) (sym last) pushed.ok;
      accepted = subst (λ past. Accepted o d past) (sym last) (accepted-more o d (pushes [] p.front) c x p.accepted pushed.answers);
      answers = λ answer next. p.answers answer (accepted-answer o d (pushes [] p.front) cs c x answer pushed.answers (subst (λ past. ChunksAnswer o d past cs answer) last next));
    }

prefix-of : (bytes : List ℕ) (g h : Option (List ℕ)) (l m : ℕ) → TookPart bytes g h l m → TookPrefix bytes g h
prefix-of bytes g h l m x = record { count = x.count; took = x.took }

refused-prefix : (o : Options) (d : Dtype) (past : List Rows) (c : Rows) (start h : Option (List ℕ)) (v : FileWriter) (n : ℕ) → v.output.taken ≡ n → Refused o d c past start v h
    → TookPrefix (sent o d past) start h ⊎ TookPrefix (sent o d (c ∷ past)) start h
refused-prefix o d past c start h v zero is r =
    let s = r.untouched is in
    inl (prefix-of (sent o d past) start h 0 v.output.taken (whole_part (sent o d past) start h 0 v.output.taken s.took))
refused-prefix o d past c start h v (suc n) is r = inr (prefix-of (sent o d (c ∷ past)) start h 0 v.output.taken (r.begun (omega (arith, is))).took)

pub pushing_ends : (o : Options) (d : Dtype) (all cs : List Rows) (c : Rows) (start g h : Option (List ℕ)) (w v : FileWriter) (e : WriteError) (p : Pushing o d all (c ∷ cs) start w g)
    → Pushed o d (pushes [] p.front) c start v h (Err e) → PushingEnds o d all start h e
pushing_ends o d all cs c start g h w v e p pushed =
    let answer = p.answers (Err e) (refused-answer o d (pushes [] p.front) cs c e pushed.answers) in
    elim (refused-prefix o d (pushes [] p.front) c start h v v.output.taken refl pushed.err) [
      | inl x ↦ record { front = p.front; rest = c ∷ cs; split = p.split; took = x; answer = answer }
      | inr x ↦ record {
        front = p.front ++ c ∷ [];
        rest = cs;
        split = p.split ∙ sym (append_assoc p.front (c ∷ []) cs);
        took = subst (λ past. TookPrefix (sent o d past) start h) (sym (pushes-last [] p.front c)) x;
        answer = answer;
      }
    ]

-- ---- a column from a place on

pub column_next : (cs : List Column) (i : ℕ) (c : Column) → i < length cs → c ≡ get_or cs i c → columns_seen (drop i cs) ≡ column_view c ∷ columns_seen (drop (i + 1) cs)
column_next cs i c lt is = ap columns_seen (let next : drop i cs ≡ c ∷ drop (i + 1) cs = rw (add-one, drop-cons cs i c, ← is) refl in next)

-- ---- the whole

pub begun_answer : (o : Options) (d : Dtype) (cs : List Rows) (answer : Answer) → IsOk (begin_checks o d) → ChunksAnswer o d [] cs answer → RowsAnswer o d cs answer
begun_answer o d cs answer ok h = passed-then answer (begin_checks o d) (ChunksAnswer o d [] cs answer) ok h

pub begin_refused : (o : Options) (d : Dtype) (cs : List Rows) (e : WriteError) → Checked {A = Unit {0}} (Err e) (begin_checks o d) → RowsAnswer {A = WriteSummary} o d cs (Err e)
begin_refused o d cs e h = refused-then e (begin_checks o d) (ChunksAnswer {A = WriteSummary} o d [] cs (Err e)) (chunks-plain o d [] cs e) h

finished-checked : (o : Options) (d : Dtype) (past : List Rows) (start : Option (List ℕ)) (now : SinkState) (r : Answer) → Finished o d past start now r → Checked r (end_checks o d past)
finished-checked o d past start now (Ok s) f = subst IsOk (sym f.checks) refl
finished-checked o d past start now (Err e) f = f.checked

pub pushing_end : (o : Options) (d : Dtype) (all : List Rows) (start g : Option (List ℕ)) (now : SinkState) (w : FileWriter) (r : Answer) (p : Pushing o d all [] start w g)
    → Finished o d (pushes [] p.front) start now r → ChunksAnswer o d [] all r
pushing_end o d all start g now w r p f = p.answers r (finished-checked o d (pushes [] p.front) start now r f)

pub all-front : (o : Options) (d : Dtype) (all : List Rows) (start g : Option (List ℕ)) (w : FileWriter) (p : Pushing o d all [] start w g) → p.front ≡ all
all-front o d all start g w p = sym (append-nil p.front) ∙ sym p.split

pub pushing_leaves : (o : Options) (d : Dtype) (all : List Rows) (before now : SinkState) (g : Option (List ℕ)) (w : FileWriter) (r : Answer) (p : Pushing o d all [] before.gained w g)
    → Finished o d (pushes [] p.front) before.gained now r → RowsLeave o d all before now r
pushing_leaves o d all before now g w (Ok s) p f = subst (λ cs. Ended o d (pushes [] cs) before.gained now s) (all-front o d all before.gained g w p) f
pushing_leaves o d all before now g w (Err e) p f = record {
  front = all;
  rest = [];
  split = sym (append-nil all);
  took = inr (subst (λ cs. TookPrefix (written o d (pushes [] cs)) before.gained now.gained) (all-front o d all before.gained g w p) f.took);
}
