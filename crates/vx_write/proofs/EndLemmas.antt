-- The end of a file.
use Rattle.std.proofs.Common.{◌≡◌, ℕ, ◌+◌, ◌<◌, ◌≤◌, ◌^◌, Bool, true, false, List, [], ◌∷◌, ◌++◌, length, map, take, Option, Some, None, Ok, Err, refl, sym, ap, subst, ◌∙◌, arith, append_assoc, length-append}
use Rattle.std.specs.Prelude.{Result, IsOk, OnOk, OnErr, nat_lt}
use Rattle.std.proofs.lemmas.Bool.Decides.{nat_tests}
use Rattle.std.specs.List.{flat_map}
use Rattle.vx_base.specs.Buffer.{Buffer}
use Rattle.vx_base.specs.Checks.{◌>>=◌, ◌unless◌}
use Rattle.vx_base.specs.Streams.{SinkState, Took, TookPrefix}
use Rattle.vx_data.specs.Dtype.{Dtype, dtype_view}
use Rattle.vx_footer.specs.declared.write_error.WriteError.{WriteError}
use Rattle.vx_footer.specs.declared.write_error.WriteError.TheVariants.{OffsetOverflow, OutOfMemory}
use Rattle.vx_footer.specs.Footers.{FooterContent}
use Rattle.vx_footer.specs.Serializing.{Serializing, Parts, bytes_of, serializing_checks}
use Rattle.vx_footer.specs.Serialized.{joined}
use Rattle.vx_rows.specs.Rows.{Rows}
use Rattle.vx_write.specs.declared.file_writer.FileWriter.{FileWriter}
use Rattle.vx_write.specs.Leaves.{ChunkRows, leaf_type, rests}
use Rattle.vx_footer.specs.declared.version.FileVersion.{FileVersion}
use Rattle.vx_write.specs.Options.{Options, layout_ids}
use Rattle.vx_write.specs.Placed.{Place, lead, pieces, with_chunks, Wrote, Failed}
use Rattle.vx_write.specs.Sending.{Coding, encoded_chunks, chunks_checks}
use Rattle.std.proofs.lemmas.List.{length-map}
use Rattle.vx_data.specs.declared.stats_set.Stat.{Stat}
use Rattle.vx_footer.specs.declared.version.FileVersion.TheVariants.{V1}
use Rattle.vx_write.specs.declared.laid_chunk.Laid.{Laid}
use Rattle.vx_write.specs.declared.summary.WriteSummary.{WriteSummary}
use Rattle.vx_write.specs.Gathered.{gathered, file_stats}
use Rattle.vx_write.specs.Laying.{grouped, leaf_count, laid_out, AreFull}
use Rattle.vx_write.specs.Plans.{PlanTree, plan_view, leaves_of}
use Rattle.vx_write.proofs.SumsLemmas.{leaves_many, sums_end}
use Rattle.vx_write.specs.Standing.{IsSound, Stands, Ended, NotEnded, Finished}
use Rattle.vx_write.specs.Taken.{TookAll, TookPart, Checked}
use Rattle.vx_write.specs.Written.{plan_for, rows_after, count_after, coding_of, place_after, sent, last_chunks, place_behind, chunks_sent, content_of, serializing, tail_bytes, tail_checks, end_checks, whole, written}
use Rattle.vx_write.proofs.TakenLemmas.{all_both, all_part, whole_part, part_first}

-- ---- the last chunks

rests-are : (o : Options) (d : Dtype) (past : List Rows) (start g : Option (List ℕ)) (w : FileWriter) → Stands o d past start w g
    → encoded_chunks w.coding (rests w.held.now) ≡ encoded_chunks (coding_of o) (last_chunks o d past)
rests-are o d past start g w s = ap (λ k. encoded_chunks k (rests w.held.now)) s.coding ∙ ap (λ ls. encoded_chunks (coding_of o) (rests ls)) s.leaves

rest-checks : (o : Options) (d : Dtype) (past : List Rows) (start g : Option (List ℕ)) (w : FileWriter) → Stands o d past start w g
    → chunks_checks w.coding w.output (rests w.held.now) ≡ chunks_checks (coding_of o) (place_after o d past) (last_chunks o d past)
rest-checks o d past start g w s =
    ap (λ k. chunks_checks k w.output (rests w.held.now)) s.coding ∙ ap (λ p. chunks_checks (coding_of o) p (rests w.held.now)) s.place
    ∙ ap (λ ls. chunks_checks (coding_of o) (place_after o d past) (rests ls)) s.leaves

rest-pieces : (o : Options) (d : Dtype) (past : List Rows) (start g : Option (List ℕ)) (w : FileWriter) → Stands o d past start w g
    → pieces w.output (encoded_chunks w.coding (rests w.held.now)) ≡ pieces (place_after o d past) (encoded_chunks (coding_of o) (last_chunks o d past))
rest-pieces o d past start g w s = ap (λ p. pieces p (encoded_chunks w.coding (rests w.held.now))) s.place ∙ ap (λ cs. pieces (place_after o d past) cs) (rests-are o d past start g w s)

pub place_is : (o : Options) (d : Dtype) (past : List Rows) (start g h : Option (List ℕ)) (w : FileWriter) (p : Place) → Stands o d past start w g
    → Wrote w.output (encoded_chunks w.coding (rests w.held.now)) g p h → p ≡ place_behind o d past
place_is o d past start g h w p s wrote =
    wrote.place ∙ ap (λ q. with_chunks q (encoded_chunks w.coding (rests w.held.now))) s.place ∙ ap (λ cs. with_chunks (place_after o d past) cs) (rests-are o d past start g w s)

-- all chunks were written
chunks-taken : (o : Options) (d : Dtype) (past : List Rows) (start g h : Option (List ℕ)) (w : FileWriter) (p : Place) → Stands o d past start w g
    → Wrote w.output (encoded_chunks w.coding (rests w.held.now)) g p h → TookAll (chunks_sent o d past) start h 0 p.taken
chunks-taken o d past start g h w p s wrote =
    all_both (sent o d past) (pieces (place_after o d past) (encoded_chunks (coding_of o) (last_chunks o d past))) start g h 0 w.output.taken p.taken s.took
    (subst (λ bytes. TookAll bytes g h w.output.taken p.taken) (rest-pieces o d past start g w s) wrote.took)

-- ---- a part of the file

prefix-of : (bytes : List ℕ) (g h : Option (List ℕ)) (l m : ℕ) → TookPart bytes g h l m → TookPrefix bytes g h
prefix-of bytes g h l m x = record { count = x.count; took = x.took }

begins : (o : Options) (d : Dtype) (past : List Rows) (r : Result Parts WriteError) (start h : Option (List ℕ)) (n : ℕ) → TookPart (chunks_sent o d past) start h 0 n → TookPrefix (whole o d past r) start h
begins o d past (Ok parts) start h n x = prefix-of _ start h 0 n (part_first (chunks_sent o d past) _ start h 0 n x)
begins o d past (Err e) start h n x = prefix-of _ start h 0 n x

pub sent_prefix : (o : Options) (d : Dtype) (past : List Rows) (start g : Option (List ℕ)) (w : FileWriter) → Stands o d past start w g → TookPrefix (written o d past) start g
sent_prefix o d past start g w s =
    begins o d past (end_checks o d past) start g w.output.taken (part_first (sent o d past) _ start g 0 w.output.taken (whole_part (sent o d past) start g 0 w.output.taken s.took))

pub failed_prefix : (o : Options) (d : Dtype) (past : List Rows) (start g h : Option (List ℕ)) (w : FileWriter) (p : Place) → Stands o d past start w g
    → Failed w.output (encoded_chunks w.coding (rests w.held.now)) g p h → TookPrefix (written o d past) start h
failed_prefix o d past start g h w p s failed =
    begins o d past (end_checks o d past) start h p.taken
    (all_part (sent o d past) (pieces (place_after o d past) (encoded_chunks (coding_of o) (last_chunks o d past))) start g h 0 w.output.taken p.taken s.took
    (subst (λ bytes. TookPart bytes g h w.output.taken p.taken) (rest-pieces o d past start g w s) failed.took))

pub chunks_prefix : (o : Options) (d : Dtype) (past : List Rows) (start g h : Option (List ℕ)) (w : FileWriter) (p : Place) → Stands o d past start w g
    → Wrote w.output (encoded_chunks w.coding (rests w.held.now)) g p h → TookPrefix (written o d past) start h
chunks_prefix o d past start g h w p s wrote =
    begins o d past (end_checks o d past) start h p.taken (whole_part (chunks_sent o d past) start h 0 p.taken (chunks-taken o d past start g h w p s wrote))

-- ---- checks

bind-err : {A B : Type 0} (r : Result A WriteError) (f : A → Result B WriteError) (e : WriteError) → r ≡ Err e → (r >>= f) ≡ Err e
bind-err r f e h = ap (λ x. x >>= f) h

bind-ok : {B : Type 0} (r : Result (Unit {0}) WriteError) (next : Result B WriteError) → IsOk r → (r >>= λ _. next) ≡ next
bind-ok (Ok x) next h = refl
bind-ok (Err e) next h = cc

pub failed_checks : (o : Options) (d : Dtype) (past : List Rows) (start g : Option (List ℕ)) (w : FileWriter) (e : WriteError) → Stands o d past start w g
    → Checked {A = Unit {0}} (Err e) (chunks_checks w.coding w.output (rests w.held.now)) → Checked {A = Unit {0}} (Err e) (end_checks o d past)
failed_checks o d past start g w e s checked = λ fault memory. bind-err _ _ e (sym (rest-checks o d past start g w s) ∙ checked fault memory)

pub end_is : (o : Options) (d : Dtype) (past : List Rows) (start g h : Option (List ℕ)) (w : FileWriter) (p : Place) (content : FooterContent) → Stands o d past start w g
    → Wrote w.output (encoded_chunks w.coding (rests w.held.now)) g p h → IsOk (chunks_checks w.coding w.output (rests w.held.now)) → content ≡ content_of o d past
    → end_checks o d past ≡ tail_checks o p content
end_is o d past start g h w p content s wrote ok is =
    bind-ok (chunks_checks (coding_of o) (place_after o d past) (last_chunks o d past)) (tail_checks o (place_behind o d past) (content_of o d past)) (subst IsOk (rest-checks o d past start g w s) ok)
    ∙ sym (ap (λ q. tail_checks o q content) (place_is o d past start g h w p s wrote) ∙ ap (λ c. tail_checks o (place_behind o d past) c) is)

-- ---- what follows the chunks

tail-ok : (parts : Parts) (short : Bool) → short ≡ true → (OffsetOverflow unless short >>= λ _. Ok parts) ≡ Ok parts
tail-ok parts short h = rw h refl

tail-long : (parts : Parts) (short : Bool) → short ≡ false → (OffsetOverflow unless short >>= λ _. Ok parts) ≡ Err OffsetOverflow
tail-long parts short h = rw h refl

within : (n m : ℕ) → n < m → nat_lt n m ≡ true
within n m h = grind (arith, nat_tests)

beyond : (n m : ℕ) → m ≤ n → nat_lt n m ≡ false
beyond n m h = grind (arith, nat_tests)

pub serialized_ok : (o : Options) (p : Place) (content : FooterContent) (s : Serializing) (parts : Parts) → s ≡ serializing o p content → serializing_checks s ≡ Ok parts
    → p.offset + length (tail_bytes parts) < 2 ^ 64 → tail_checks o p content ≡ Ok parts
unfolding tail_checks
serialized_ok o p content s parts is checks short =
    ap (λ r. r >>= λ x. OffsetOverflow unless nat_lt (p.offset + length (tail_bytes x)) (2 ^ 64) >>= λ _. Ok x) (sym (ap serializing_checks is) ∙ checks)
    ∙ tail-ok parts (nat_lt (p.offset + length (tail_bytes parts)) (2 ^ 64)) (within (p.offset + length (tail_bytes parts)) (2 ^ 64) short)

pub serialized_long : (o : Options) (p : Place) (content : FooterContent) (s : Serializing) (parts : Parts) → s ≡ serializing o p content → serializing_checks s ≡ Ok parts
    → 2 ^ 64 ≤ p.offset + length (tail_bytes parts) → tail_checks o p content ≡ Err OffsetOverflow
unfolding tail_checks
serialized_long o p content s parts is checks long =
    ap (λ r. r >>= λ x. OffsetOverflow unless nat_lt (p.offset + length (tail_bytes x)) (2 ^ 64) >>= λ _. Ok x) (sym (ap serializing_checks is) ∙ checks)
    ∙ tail-long parts (nat_lt (p.offset + length (tail_bytes parts)) (2 ^ 64)) (beyond (p.offset + length (tail_bytes parts)) (2 ^ 64) long)

-- ---- all of it

pub tail_joined : (buffers : List Buffer) → flat_map (λ part. part) (bytes_of buffers) ≡ joined buffers
tail_joined [] = refl
tail_joined (b ∷ bs) = ap (λ bytes. b.bytes ++ bytes) (tail_joined bs)

-- what was written when the tail was, or a part of it
pub tail_taken : (o : Options) (d : Dtype) (past : List Rows) (start g h j : Option (List ℕ)) (w : FileWriter) (p : Place) (parts : Parts) (bytes : List ℕ) (size : ℕ) → Stands o d past start w g
    → Wrote w.output (encoded_chunks w.coding (rests w.held.now)) g p h → end_checks o d past ≡ Ok parts → tail_bytes parts ≡ bytes → TookAll (lead p.taken ++ bytes) h j p.taken size
    → TookAll (written o d past) start j 0 size
tail_taken o d past start g h j w p parts bytes size s wrote checks is took =
    let place = place_is o d past start g h w p s wrote in
    let all = all_both (chunks_sent o d past) (lead p.taken ++ bytes) start h j 0 p.taken size (chunks-taken o d past start g h w p s wrote) took in
    subst (λ t. TookAll t start j 0 size) (sym (ap (λ r. whole o d past r) checks ∙ ap (λ b. chunks_sent o d past ++ (lead (place_behind o d past).taken ++ b)) is
    ∙ sym (ap (λ (q : Place). chunks_sent o d past ++ (lead q.taken ++ bytes)) place))) all

pub tail_cut : (o : Options) (d : Dtype) (past : List Rows) (start g h j : Option (List ℕ)) (w : FileWriter) (p : Place) (parts : Parts) (bytes : List ℕ) (size : ℕ) → Stands o d past start w g
    → Wrote w.output (encoded_chunks w.coding (rests w.held.now)) g p h → end_checks o d past ≡ Ok parts → tail_bytes parts ≡ bytes → TookPart (lead p.taken ++ bytes) h j p.taken size
    → TookPrefix (written o d past) start j
tail_cut o d past start g h j w p parts bytes size s wrote checks is took =
    let place = place_is o d past start g h w p s wrote in
    let all = all_part (chunks_sent o d past) (lead p.taken ++ bytes) start h j 0 p.taken size (chunks-taken o d past start g h w p s wrote) took in
    subst (λ t. TookPrefix t start j) (sym (ap (λ r. whole o d past r) checks ∙ ap (λ b. chunks_sent o d past ++ (lead (place_behind o d past).taken ++ b)) is
    ∙ sym (ap (λ (q : Place). chunks_sent o d past ++ (lead q.taken ++ bytes)) place))) (prefix-of _ start j 0 size all)

-- ---- the footer

abbrev pub made : List Stat → PlanTree → Dtype → ℕ → Place → List (List ℕ) → Rows → FooterContent
made stats plan t n p ids c = record {
  version = V1;
  layout = laid_out plan t n (grouped (leaf_count plan) p.laid);
  segments = map (λ (l : Laid). l.spec) p.laid;
  statistics = file_stats stats t c;
  metadata = [];
  array_ids = ids;
}

pub content_is : (o : Options) (d : Dtype) (past : List Rows) (start g h : Option (List ℕ)) (w : FileWriter) (p : Place) → Stands o d past start w g
    → Wrote w.output (encoded_chunks w.coding (rests w.held.now)) g p h
    → made w.options.statistics (plan_view w.plan) (dtype_view w.dtype) w.rows p w.coding.ids (rows_after d past) ≡ content_of o d past
content_is o d past start g h w p s wrote =
    let c = rows_after d past in
    ap (λ (q : Options). made q.statistics (plan_view w.plan) (dtype_view w.dtype) w.rows p w.coding.ids c) s.options
    ∙ ap (λ (q : PlanTree). made o.statistics q (dtype_view w.dtype) w.rows p w.coding.ids c) s.plan
    ∙ ap (λ t. made o.statistics (plan_for o d) t w.rows p w.coding.ids c) s.dtype
    ∙ ap (λ n. made o.statistics (plan_for o d) d n p w.coding.ids c) s.rows
    ∙ ap (λ q. made o.statistics (plan_for o d) d (count_after past) q w.coding.ids c) (place_is o d past start g h w p s wrote)
    ∙ ap (λ (k : Coding). made o.statistics (plan_for o d) d (count_after past) (place_behind o d past) k.ids c) s.coding

pub seen_is : (o : Options) (d : Dtype) (past : List Rows) (start g : Option (List ℕ)) (w : FileWriter) → Stands o d past start w g → w.stats.items ≡ gathered w.options.statistics (rows_after d past)
seen_is o d past start g w s = s.stats ∙ sym (ap (λ (p : Options). gathered p.statistics (rows_after d past)) s.options)

pub leaves_are : (w : FileWriter) → IsSound w → length w.held.now ≡ leaf_count (plan_view w.plan)
leaves_are w s =
    let many : length w.held.now ≡ length (leaves_of (plan_view w.plan) (dtype_view w.dtype)) =
    sym (length-map w.held.now leaf_type) ∙ ap length s.types ∙ length-map (leaves_of (plan_view w.plan) (dtype_view w.dtype)) leaf_type in
    many ∙ sym (leaves_many (plan_view w.plan) (dtype_view w.dtype) s.fit)

pub full_is : (w : FileWriter) (g h : Option (List ℕ)) (p : Place) → IsSound w → w.failed ≡ false → Wrote w.output (encoded_chunks w.coding (rests w.held.now)) g p h
    → AreFull w.rows (grouped (leaf_count (plan_view w.plan)) p.laid)
full_is w g h p s fine wrote =
    subst (λ (q : Place). AreFull w.rows (grouped (leaf_count (plan_view w.plan)) q.laid)) (sym wrote.place)
    (sums_end w.coding w.output (leaf_count (plan_view w.plan)) w.rows w.held.now (s.sums fine))

-- ---- what the end answers

pub ends_short : (o : Options) (d : Dtype) (past : List Rows) (start : Option (List ℕ)) (now : SinkState) (e : WriteError) → TookPrefix (written o d past) start now.gained
    → Checked {A = Unit {0}} (Err e) (end_checks o d past) → Finished o d past start now (Err e)
ends_short o d past start now e took checked = record { took = took; checked = checked }

pub no_memory : (o : Options) (d : Dtype) (past : List Rows) (start : Option (List ℕ)) (now : SinkState) → TookPrefix (written o d past) start now.gained → Finished o d past start now (Err OutOfMemory)
no_memory o d past start now took = record { took = took; checked = λ f m. absurd (m refl) }

pub ends : (o : Options) (d : Dtype) (past : List Rows) (start : Option (List ℕ)) (now : SinkState) (s : WriteSummary) (parts : Parts) → TookAll (written o d past) start now.gained 0 s.size → now.is_flushed ≡ true
    → end_checks o d past ≡ Ok parts → s.footer.content ≡ parts.content → s.row_count ≡ count_after past → Finished o d past start now (Ok s)
ends o d past start now s parts took flushed checks footer rows = record {
  took = took.took;
  flushed = flushed;
  parts = parts;
  checks = checks;
  footer = footer;
  size = omega (arith, took.counted);
  rows = rows;
}

-- ---- what a serializer was told

pub serializer_is : (content : FooterContent) (own version : FileVersion) (permitted : Option (List (List ℕ))) (offset : ℕ) (excludes : Bool) (values : List (List ℕ × Buffer)) (a b c d e f : Serializing)
    → a ≡ record { content = content; permitted = None; offset = 0; excludes_dtype = false; values = []; version = own } → b ≡ record a { permitted = permitted } → c ≡ record b { offset = offset }
    → d ≡ record c { excludes_dtype = excludes } → e ≡ record d { version = version } → f ≡ record e { values = values }
    → f ≡ record { content = content; permitted = permitted; offset = offset; excludes_dtype = excludes; values = values; version = version }
serializer_is content own version permitted offset excludes values a b c d e f ha hb hc hd he hf =
    hf ∙ ap (λ (x : Serializing). record x { values = values }) (he ∙ ap (λ (x : Serializing). record x { version = version }) (hd ∙ ap (λ (x : Serializing). record x { excludes_dtype = excludes })
    (hc ∙ ap (λ (x : Serializing). record x { offset = offset }) (hb ∙ ap (λ (x : Serializing). record x { permitted = permitted }) ha))))

pub told_is : (o : Options) (p : Place) (content : FooterContent) (permitted : Option (List (List ℕ))) (offset : ℕ) (excludes : Bool) (values : List (List ℕ × Buffer)) (version : FileVersion)
    → permitted ≡ layout_ids o → offset ≡ p.offset → excludes ≡ o.excludes_dtype → values ≡ o.metadata → version ≡ o.version
    → record { content = content; permitted = permitted; offset = offset; excludes_dtype = excludes; values = values; version = version } ≡ serializing o p content
told_is o p content permitted offset excludes values version a b c d e =
    ap (λ x. record { content = content; permitted = x; offset = offset; excludes_dtype = excludes; values = values; version = version }) a
    ∙ ap (λ x. record { content = content; permitted = layout_ids o; offset = x; excludes_dtype = excludes; values = values; version = version }) b
    ∙ ap (λ x. record { content = content; permitted = layout_ids o; offset = p.offset; excludes_dtype = x; values = values; version = version }) c
    ∙ ap (λ x. record { content = content; permitted = layout_ids o; offset = p.offset; excludes_dtype = o.excludes_dtype; values = x; version = version }) d
    ∙ ap (λ x. record { content = content; permitted = layout_ids o; offset = p.offset; excludes_dtype = o.excludes_dtype; values = o.metadata; version = x }) e

pub footer_is : (o : Options) (d : Dtype) (past : List Rows) (start g h : Option (List ℕ)) (w : FileWriter) (p : Place) (laid : List Laid) (ids : List (List ℕ)) (content : FooterContent) → Stands o d past start w g
    → Wrote w.output (encoded_chunks w.coding (rests w.held.now)) g p h → laid ≡ p.laid → ids ≡ w.coding.ids
    → content ≡ record {
      version = V1;
      layout = laid_out (plan_view w.plan) (dtype_view w.dtype) w.rows (grouped (leaf_count (plan_view w.plan)) laid);
      segments = map (λ (l : Laid). l.spec) laid;
      statistics = file_stats w.options.statistics (dtype_view w.dtype) (rows_after d past);
      metadata = [];
      array_ids = ids;
    }
    → content ≡ content_of o d past
footer_is o d past start g h w p laid ids content s wrote lies named is =
    is
    ∙ ap (λ (ls : List Laid). record {
      version = V1;
      layout = laid_out (plan_view w.plan) (dtype_view w.dtype) w.rows (grouped (leaf_count (plan_view w.plan)) ls);
      segments = map (λ (l : Laid). l.spec) ls;
      statistics = file_stats w.options.statistics (dtype_view w.dtype) (rows_after d past);
      metadata = [];
      array_ids = ids;
    }) lies
    ∙ ap (λ x. made w.options.statistics (plan_view w.plan) (dtype_view w.dtype) w.rows p x (rows_after d past)) named
    ∙ content_is o d past start g h w p s wrote

pub ok_no_error : (e : WriteError) → ◌≡◌ {A = Result (Unit {0}) WriteError} (Ok tt) (Err e) → ⊥
ok_no_error e is = cc
