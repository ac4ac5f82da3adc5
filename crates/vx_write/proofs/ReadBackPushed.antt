-- A file of rows that was written has the rows that were pushed.
use Rattle.std.proofs.Common.{◌≡◌, ℕ, ◌+◌, false, List, [], ◌∷◌, ◌++◌, map, Option, Some, None, Ok, refl, sym, ap, ap₂, subst, ◌∙◌, arith, append_assoc}
use Rattle.std.specs.Prelude.{replicate}
use Rattle.std.proofs.lemmas.List.{map-append}
use Rattle.vx_base.specs.declared.segment.SegmentSpec.{SegmentSpec}
use Rattle.vx_data.specs.Dtype.{Dtype, FieldList, bool, int, text, struct, no_fields, field}
use Rattle.vx_data.specs.DtypeWritten.{HasTexts}
use Rattle.vx_footer.specs.Serializing.{Parts}
use Rattle.vx_footer.specs.ReadAgain.{content_read}
use Rattle.vx_footer.proofs.ReadBackFiles.{content_kept}
use Rattle.vx_rows.specs.LayoutRows.{rows_of}
use Rattle.vx_rows.specs.ReadRows.{no_rows, no_rows_each}
use Rattle.vx_rows.specs.Rows.{Rows, rows_len}
use Rattle.vx_base.specs.Streams.{SinkState}
use Rattle.vx_footer.specs.Footers.{FooterContent, metadata_specs}
use Rattle.vx_write.specs.declared.summary.WriteSummary.{WriteSummary}
use Rattle.vx_write.specs.Laying.{grouped, leaf_count}
use Rattle.vx_write.specs.Leaves.{Leaf}
use Rattle.vx_write.specs.OpensAgain.{AreTold, Accepted, slices, OpensAgain}
use Rattle.vx_write.specs.Options.{Options, array_ids}
use Rattle.vx_write.specs.Placed.{specs_in, pieces, lead, with_chunks}
use Rattle.vx_write.specs.Plans.{PlanTree, PlanList, a_leaf, a_struct, no_plans, a_plan, IsFor, AreFor, leaves_of, leaves_in, columns_of, columns_in}
use Rattle.vx_write.specs.RowsWritten.{pushes}
use Rattle.vx_write.specs.Sending.{encoded_chunks}
use Rattle.vx_write.specs.Standing.{Ended}
use Rattle.vx_write.specs.Written.{plan_for, coding_of, leaves_after, filled_by, place_after, sent, rows_after, count_after, last_chunks, place_behind, chunks_sent, content_of, serializing, tail_bytes, end_checks, written}
use Rattle.vx_write.proofs.SumsLemmas.{leaves_many}
use Rattle.vx_write.proofs.ReadBackPlaces.{more_specs, chunks_read}
use Rattle.vx_write.proofs.ReadBackWritten.{few_ids, plan_fits, columns_are, after, ended, written_again}
use Rattle.vx_write.proofs.ReadBackColumns.{columns_both}
use Rattle.vx_write.proofs.ReadBackRows.{plan_read}
use Rattle.vx_write.proofs.ReadBackLeaves.{LeavesHold, none_held, leaves_held, leaves_end}

kept_of : Leaf → Rows
kept_of l = l.kept

-- ---- before any push

mutual
  unfolding kept_of

  none_kept : (p : PlanTree) (d : Dtype) → IsFor p d → columns_of p (no_rows d) ≡ map kept_of (leaves_of p d)
  none_kept (a_leaf s) d fit = refl
  none_kept (a_struct v ps) (bool nullable) fit = absurd fit
  none_kept (a_struct v ps) (int ptype nullable) fit = absurd fit
  none_kept (a_struct v ps) (text nullable) fit = absurd fit
  none_kept (a_struct None ps) (struct fs nullable) fit = none_kept_each ps fs fit.2
  none_kept (a_struct (Some s) ps) (struct fs nullable) fit = ap (λ cs. no_rows (bool false) ∷ cs) (none_kept_each ps fs fit.2)

  none_kept_each : (ps : PlanList) (fs : FieldList) → AreFor ps fs → columns_in ps (no_rows_each fs) ≡ map kept_of (leaves_in ps fs)
  none_kept_each no_plans fs fit = refl
  none_kept_each (a_plan p ps) no_fields fit = absurd fit
  none_kept_each (a_plan p ps) (field name d fs) fit = ap₂ (λ x y. x ++ y) (none_kept p d fit.0) (none_kept_each ps fs fit.1) ∙ sym (map-append kept_of (leaves_of p d) (leaves_in ps fs))

begun : (bytes : ℕ → Option (List ℕ)) (ids : List (List ℕ)) (p : PlanTree) (d : Dtype) → IsFor p d → LeavesHold bytes ids (grouped (leaf_count p) []) (leaves_of p d) (columns_of p (no_rows d))
unfolding kept_of
begun bytes ids p d fit =
    subst (λ (cs : List Rows). LeavesHold bytes ids (replicate (leaf_count p) []) (leaves_of p d) cs) (sym (none_kept p d fit))
    (subst (λ (n : ℕ). LeavesHold bytes ids (replicate n []) (leaves_of p d) (map (λ (l : Leaf). l.kept) (leaves_of p d))) (sym (leaves_many p d fit)) (none_held bytes ids (leaves_of p d)))

-- ---- after pushes

pushed : (file : List ℕ) (specs : List SegmentSpec) (o : Options) (d : Dtype) (past : List Rows) (rest : List ℕ) (more : List SegmentSpec) → AreTold o → Accepted o d past
    → file ≡ sent o d past ++ rest → specs ≡ specs_in (place_after o d past) ++ more
    → LeavesHold (slices file specs) (array_ids o) (grouped (leaf_count (plan_for o d)) (place_after o d past).laid) (leaves_after o d past) (columns_of (plan_for o d) (rows_after d past))
pushed file specs o d [] rest more told h is listed = begun (slices file specs) (array_ids o) (plan_for o d) d (plan_fits o d told)
pushed file specs o d (c ∷ past) rest more told h is listed =
    let k = coding_of o in
    let p = place_after o d past in
    let plan = plan_for o d in
    let fit = plan_fits o d told in
    let a = after o d past told h.0 in
    let chunks = filled_by o d past c in
    let es = encoded_chunks k chunks in
    let columns = columns_of plan c in
    let are = columns_are o d past c fit h.1.typed h.1.even a.types in
    let here : file ≡ sent o d past ++ (pieces p es ++ rest) = is ∙ append_assoc (sent o d past) (pieces p es) rest in
    let m = more_specs p es in
    let order : specs ≡ specs_in p ++ (m.others ++ more) = listed ∙ ap (λ ss. ss ++ more) m.is ∙ append_assoc (specs_in p) m.others more in
    let old = pushed file specs o d past (pieces p es ++ rest) (m.others ++ more) told h.0 here order in
    let read = chunks_read file specs k (sent o d past) rest p chunks more a.out here listed h.3 in
    let new = leaves_held (slices file specs) k p (leaf_count plan) (rows_len c) (leaves_after o d past) columns (columns_of plan (rows_after d past)) a.leaves are.typed are.even read old in
    let both = columns_both plan (rows_after d past) c (subst (λ (e : Dtype). IsFor plan e) (sym a.typed) fit) (a.typed ∙ sym h.1.typed) in
    subst (λ (cs : List Rows). LeavesHold (slices file specs) (array_ids o) (grouped (leaf_count plan) (with_chunks p es).laid) (leaves_after o d (c ∷ past)) cs) (sym both) new

-- ---- the whole

rows_again : (o : Options) (d : Dtype) (past : List Rows) (parts : Parts) (more : List SegmentSpec) → AreTold o → Accepted o d past → end_checks o d past ≡ Ok parts
    → rows_of (slices (written o d past) ((content_of o d past).segments ++ more)) (array_ids o) (content_of o d past).layout ≡ Some (rows_after d past)
rows_again o d past parts more told accepted checks =
    let a = after o d past told accepted in
    let e = ended o d past parts checks in
    let k = coding_of o in
    let p = place_after o d past in
    let q = place_behind o d past in
    let plan = plan_for o d in
    let chunks = last_chunks o d past in
    let es = encoded_chunks k chunks in
    let file = written o d past in
    let specs = specs_in q ++ more in
    let tail = lead q.taken ++ tail_bytes parts in
    let whole : file ≡ chunks_sent o d past ++ tail = e.file ∙ append_assoc (chunks_sent o d past) (lead q.taken) (tail_bytes parts) in
    let here : file ≡ sent o d past ++ (pieces p es ++ tail) = whole ∙ append_assoc (sent o d past) (pieces p es) tail in
    let m = more_specs p es in
    let listed : specs ≡ specs_in p ++ (m.others ++ more) = ap (λ ss. ss ++ more) m.is ∙ append_assoc (specs_in p) m.others more in
    let old = pushed file specs o d past (pieces p es ++ tail) (m.others ++ more) told accepted here listed in
    let read = chunks_read file specs k (sent o d past) tail p chunks more a.out here refl e.chunks in
    let leaves = leaves_end (slices file specs) k p (leaf_count plan) (leaves_after o d past) (columns_of plan (rows_after d past)) a.leaves read old in
    plan_read (slices file specs) (array_ids o) plan d (count_after past) (grouped (leaf_count plan) q.laid) (rows_after d past) (omega (arith, few_ids o)) a.typed (plan_fits o d told) a.even leaves

-- a file of chunks that were accepted, and its end
pub opens_again : (o : Options) (d : Dtype) (past : List Rows) (parts : Parts) → AreTold o → HasTexts d → Accepted o d past → end_checks o d past ≡ Ok parts → OpensAgain o d past (content_read parts.content)
opens_again o d past parts told texts accepted checks =
    let e = ended o d past parts checks in
    let same = content_kept (serializing o (place_behind o d past) (content_of o d past)) parts e.tail in
    let more = metadata_specs parts.content.metadata in
    let bytes : List SegmentSpec → ℕ → Option (List ℕ) = λ specs. slices (written o d past) (specs ++ more) in
    record {
      supplied = written_again o d past parts (Some d) told accepted checks refl;
      alone = λ kept. written_again o d past parts None told accepted checks (kept, texts);
      rows = ap (λ ss. rows_of (bytes ss) parts.content.array_ids parts.content.layout) same.segments
          ∙ ap (λ ids. rows_of (bytes (content_of o d past).segments) ids parts.content.layout) same.ids
          ∙ ap (λ t. rows_of (bytes (content_of o d past).segments) (array_ids o) t) same.layout
          ∙ rows_again o d past parts more told accepted checks;
    }

-- and so opens the file of the chunks of a call, whose summary has the footer
pub ended_opens : (o : Options) (d : Dtype) (front all : List Rows) (start : Option (List ℕ)) (now : SinkState) (s : WriteSummary) → AreTold o → HasTexts d → front ≡ all → Accepted o d (pushes [] front)
    → Ended o d (pushes [] front) start now s → OpensAgain o d (pushes [] all) (content_read s.footer.content)
ended_opens o d front all start now s told texts same accepted e =
    subst (λ (cs : List Rows). OpensAgain o d (pushes [] cs) (content_read s.footer.content)) same
    (subst (λ (f : FooterContent). OpensAgain o d (pushes [] front) (content_read f)) (sym e.footer) (opens_again o d (pushes [] front) e.parts told texts accepted e.checks))
