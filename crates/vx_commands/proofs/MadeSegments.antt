-- The layout of a file that was written names only segments that the file has.
use Rattle.std.proofs.Common.{◌≡◌, ℕ, zero, suc, ◌+◌, ◌<◌, ◌≤◌, false, List, [], ◌∷◌, ◌++◌, length, map, drop, nat_le, Option, Some, None, refl, sym, ap, ◌∙◌, arith}
use Rattle.std.specs.Prelude.{replicate, find}
use Rattle.std.specs.List.{AllByRecursion}
use Rattle.std.proofs.lemmas.Bool.Decides.{nat_tests}
use Rattle.std.proofs.lemmas.List.{length-map}
use Rattle.vx_base.specs.Streams.{SinkState}
use Rattle.vx_base.specs.declared.segment.SegmentSpec.{SegmentSpec}
use Rattle.vx_data.specs.Dtype.{Dtype, FieldList, bool, int, text, struct, no_fields, field}
use Rattle.vx_data.specs.Layout.{LayoutTree, layouts_of}
use Rattle.vx_data.specs.Paths.{Path}
use Rattle.vx_footer.specs.FieldSizes.{Reference, chunk_parts, struct_parts, references_of, references_below, missing}
use Rattle.vx_footer.proofs.ReadBackFiles.{content_kept}
use Rattle.vx_rows.specs.Rows.{Rows}
use Rattle.vx_write.specs.declared.laid_chunk.Laid.{Laid}
use Rattle.vx_write.specs.declared.laid_chunk.Numbered.{Numbered}
use Rattle.vx_write.specs.declared.strategy.LeafStrategy.{LeafStrategy}
use Rattle.vx_write.specs.declared.summary.WriteSummary.{WriteSummary}
use Rattle.vx_write.specs.Laying.{Groups, put_at, put_from, grouped, flat, chunked, leaf_layout, first_group, validity_count, leaf_count, with_validity, laid_out, all_laid_out}
use Rattle.vx_write.specs.Options.{Options}
use Rattle.vx_write.specs.Placed.{specs_in}
use Rattle.vx_write.specs.Plans.{PlanTree, PlanList, a_leaf, a_struct, no_plans, a_plan}
use Rattle.vx_write.specs.Standing.{Ended}
use Rattle.vx_write.specs.Written.{plan_for, place_behind, count_after, content_of, serializing}
use Rattle.vx_write.proofs.ReadBackWritten.{ended}

-- ---- the numbers of segments

abbrev AreBelow : ℕ → List Numbered → Type 0
AreBelow n xs = AllByRecursion (λ (x : Numbered). x.segment < n) xs

abbrev AllBelow : ℕ → Groups → Type 0
AllBelow n gs = AllByRecursion (AreBelow n) gs

push_below : (n : ℕ) (xs : List Numbered) (x : Numbered) → AreBelow n xs → x.segment < n → AreBelow n (xs ++ x ∷ [])
push_below n [] x h k = (k, tt)
push_below n (y ∷ xs) x h k = (h.0, push_below n xs x h.1 k)

put_below : (n place : ℕ) (x : Numbered) (gs : Groups) → x.segment < n → AllBelow n gs → AllBelow n (put_at place x gs)
put_below n place x [] k h = tt
put_below n zero x (g ∷ gs) k h = (push_below n g x h.0 k, h.1)
put_below n (suc place) x (g ∷ gs) k h = (h.0, put_below n place x gs k h.1)

puts_below : (n number : ℕ) (ls : List Laid) (gs : Groups) → number + length ls ≤ n → AllBelow n gs → AllBelow n (put_from number ls gs)
puts_below n number [] gs few h = h
puts_below n number (l ∷ ls) gs few h =
    let x : Numbered = record { rows = l.rows; segment = number } in
    puts_below n (number + 1) ls (put_at l.leaf x gs) (omega (arith, few)) (put_below n l.leaf x gs (omega (arith, few)) h)

none_below : (n leaves : ℕ) → AllBelow n (replicate leaves [])
none_below n zero = tt
none_below n (suc leaves) = (tt, none_below n leaves)

grouped_below : (leaves : ℕ) (ls : List Laid) → AllBelow (length ls) (grouped leaves ls)
grouped_below leaves ls = puts_below (length ls) 0 ls (replicate leaves []) (omega arith) (none_below (length ls) leaves)

first_below : (n : ℕ) (gs : Groups) → AllBelow n gs → AreBelow n (first_group gs)
first_below n [] h = tt
first_below n (g ∷ gs) h = h.0

drop_below : (n k : ℕ) (gs : Groups) → AllBelow n gs → AllBelow n (drop k gs)
drop_below n zero gs h = h
drop_below n (suc k) [] h = tt
drop_below n (suc k) (g ∷ gs) h = drop_below n k gs h.1

-- ---- what layouts name

abbrev pub NameBelow : ℕ → List Reference → Type 0
NameBelow n rs = AllByRecursion (λ (r : Reference). r.segment < n) rs

-- a layout names only segments before a number, whatever its path is
pub record NamesBelow (n : ℕ) (t : LayoutTree) : Type 0 where
  pub each : (path : Path) → NameBelow n (references_of path t)

both_below : (n : ℕ) (xs ys : List Reference) → NameBelow n xs → NameBelow n ys → NameBelow n (xs ++ ys)
both_below n [] ys h k = k
both_below n (x ∷ xs) ys h k = (h.0, both_below n xs ys h.1 k)

children_below : (n : ℕ) (ts : List LayoutTree) → AllByRecursion (NamesBelow n) ts → (path : Path) (parts : List Path) → NameBelow n (references_below path parts (layouts_of ts))
children_below n [] h path [] = tt
children_below n [] h path (part ∷ parts) = tt
children_below n (t ∷ ts) h path [] = tt
children_below n (t ∷ ts) h path (part ∷ parts) =
    both_below n (references_of (path ++ part) t) (references_below path parts (layouts_of ts)) (h.0.each (path ++ part)) (children_below n ts h.1 path parts)

flat_below : (n : ℕ) (d : Dtype) (x : Numbered) → x.segment < n → NamesBelow n (flat d x)
flat_below n d x h = record { each = λ path. (h, tt) }

flats_below : (n : ℕ) (d : Dtype) (xs : List Numbered) → AreBelow n xs → AllByRecursion (NamesBelow n) (map (flat d) xs)
flats_below n d [] h = tt
flats_below n d (x ∷ xs) h = (flat_below n d x h.0, flats_below n d xs h.1)

chunked_below : (n : ℕ) (d : Dtype) (xs : List Numbered) → AreBelow n xs → NamesBelow n (chunked d xs)
chunked_below n d xs h = record { each = λ path. children_below n (map (flat d) xs) (flats_below n d xs h) path (chunk_parts (layouts_of (map (flat d) xs))) }

leaf_below : (n : ℕ) (d : Dtype) (xs : List Numbered) → AreBelow n xs → NamesBelow n (leaf_layout d xs)
leaf_below n d [] h = chunked_below n d [] h
leaf_below n d (x ∷ []) h = flat_below n d x h.0
leaf_below n d (x ∷ y ∷ xs) h = chunked_below n d (x ∷ y ∷ xs) h

validity_below : (n : ℕ) (validity : Option LeafStrategy) (gs : Groups) (ts : List LayoutTree) → AllBelow n gs → AllByRecursion (NamesBelow n) ts → AllByRecursion (NamesBelow n) (with_validity validity gs ts)
validity_below n None gs ts h k = k
validity_below n (Some s) gs ts h k = (leaf_below n (bool false) (first_group gs) (first_below n gs h), k)

mutual
  laid_below : (n : ℕ) (p : PlanTree) (d : Dtype) (rows : ℕ) (gs : Groups) → AllBelow n gs → NamesBelow n (laid_out p d rows gs)
  laid_below n (a_leaf s) d rows gs h = leaf_below n d (first_group gs) (first_below n gs h)
  laid_below n (a_struct validity ps) (struct fs nullable) rows gs h =
      let rest = drop (validity_count validity) gs in
      let ts = all_laid_out ps fs rows rest in
      let each = validity_below n validity gs ts h (all_laid_below n ps fs rows rest (drop_below n (validity_count validity) gs h)) in
      record { each = λ path. children_below n (with_validity validity gs ts) each path (struct_parts (struct fs nullable)) }
  laid_below n (a_struct validity ps) (bool nullable) rows gs h = leaf_below n (bool nullable) [] tt
  laid_below n (a_struct validity ps) (int ptype nullable) rows gs h = leaf_below n (int ptype nullable) [] tt
  laid_below n (a_struct validity ps) (text nullable) rows gs h = leaf_below n (text nullable) [] tt

  all_laid_below : (n : ℕ) (ps : PlanList) (fs : FieldList) (rows : ℕ) (gs : Groups) → AllBelow n gs → AllByRecursion (NamesBelow n) (all_laid_out ps fs rows gs)
  all_laid_below n no_plans fs rows gs h = tt
  all_laid_below n (a_plan p ps) no_fields rows gs h = tt
  all_laid_below n (a_plan p ps) (field name d fs) rows gs h =
      (laid_below n p d rows gs h, all_laid_below n ps fs rows (drop (leaf_count p) gs) (drop_below n (leaf_count p) gs h))

-- ---- none is missing

none_found : (n : ℕ) (rs : List Reference) → NameBelow n rs → find (λ id. nat_le n id) (map (λ (r : Reference). r.segment) rs) ≡ None
none_found n [] h = refl
none_found n (r ∷ rs) h =
    let low : r.segment < n = h.0 in
    let late : nat_le n r.segment ≡ false = grind (arith, nat_tests, low) in
    rw late (none_found n rs h.1)

pub none_missing : (t : LayoutTree) (ss : List SegmentSpec) (n : ℕ) → length ss ≡ n → NamesBelow n t → missing t ss ≡ None
none_missing t ss n long h = ap (λ m. find (λ id. nat_le m id) (map (λ (r : Reference). r.segment) (references_of [] t))) long ∙ none_found n (references_of [] t) (h.each [])

-- of the file of a summary
pub ended_there : (o : Options) (d : Dtype) (past : List Rows) (start : Option (List ℕ)) (now : SinkState) (s : WriteSummary) → Ended o d past start now s → missing s.footer.content.layout s.footer.content.segments ≡ None
ended_there o d past start now s h =
    let p = place_behind o d past in
    let same = content_kept (serializing o p (content_of o d past)) h.parts (ended o d past h.parts h.checks).tail in
    let layout = ap (λ f. f.layout) h.footer ∙ same.layout in
    let segments = ap (λ f. f.segments) h.footer ∙ same.segments in
    ap (λ t. missing t s.footer.content.segments) layout ∙ ap (missing (content_of o d past).layout) segments
    ∙ none_missing (content_of o d past).layout (specs_in p) (length p.laid) (length-map p.laid (λ l. l.spec))
    (laid_below (length p.laid) (plan_for o d) d (count_after past) (grouped (leaf_count (plan_for o d)) p.laid) (grouped_below (leaf_count (plan_for o d)) p.laid))

-- then none is told to be missing
pub not_missing : (missed : Option ℕ) (id : ℕ) → missed ≡ None → missed ≡ Some id → ⊥
not_missing missed id h k = let both : None ≡ Some id = sym h ∙ k in cc
