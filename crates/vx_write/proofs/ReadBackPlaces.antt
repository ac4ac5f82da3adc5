-- Where chunks lie in a file: their segments are in order, and each has the bytes of its chunk.
use Rattle.std.proofs.Common.{◌≡◌, ℕ, ◌+◌, ◌-◌, ◌%◌, ◌<◌, ◌≤◌, ◌^◌, Bool, true, false, List, [], ◌∷◌, ◌++◌, length, Option, Some, Ok, Err, refl, sym, ap, subst, ◌∙◌, arith, append_assoc, length-append}
use Rattle.std.specs.Prelude.{◌==◌, ◌&&◌, nat_le, nat_lt, replicate, slice_get, if◌then◌else◌, Result}
use Rattle.std.specs.List.{AllByRecursion}
use Rattle.std.specs.Option.{option_map}
use Rattle.std.proofs.lemmas.Bool.{eqb-true, eqb-false, le-leb}
use Rattle.std.proofs.lemmas.Bool.Decides.{nat_tests}
use Rattle.std.proofs.lemmas.List.{append-nil, length-replicate, length-map, map-append}
use Rattle.vx_base.specs.Buffer.{Buffer, bytes_at}
use Rattle.vx_base.specs.Checks.{◌>>=◌, ◌unless◌}
use Rattle.vx_base.specs.declared.segment.SegmentSpec.{SegmentSpec}
use Rattle.vx_tables.specs.Standing.{IsAt}
use Rattle.vx_tables.proofs.Places.{at_right, at_move, at_drop}
use Rattle.vx_footer.specs.declared.write_error.WriteError.{WriteError}
use Rattle.vx_footer.specs.declared.write_error.WriteError.TheVariants.{NotPermitted, TooManySegments, SegmentTooLong, OffsetOverflow}
use Rattle.vx_footer.specs.Opening.{rise_from, are_ordered}
use Rattle.vx_footer.specs.Serialized.{joined}
use Rattle.vx_footer.specs.ReadAgain.{IsSegment}
use Rattle.vx_footer.proofs.PaddingLemmas.{padded}
use Rattle.vx_rows.specs.Encoded.{is_permitted, array_bytes}
use Rattle.vx_write.specs.declared.laid_chunk.Laid.{Laid}
use Rattle.vx_write.specs.Leaves.{ChunkRows}
use Rattle.vx_write.specs.OpensAgain.{slices}
use Rattle.vx_write.specs.Placed.{Place, Encoded, magic, first_place, specs_in, segments_in, lead, piece, with_chunk, pieces, with_chunks}
use Rattle.vx_write.specs.Sending.{Coding, encoded_chunk, encoded_chunks, chunk_checks, chunks_checks}
use Rattle.vx_write.specs.Sinks.{are_laid, spec_of, behind, zeros_before, place_checks}
use Rattle.vx_write.proofs.Laid.{laid_push}

-- ---- checks that passed

record PlacePasses (p : Place) (b : Buffer) : Type 0 where
  few : length p.laid < 2 ^ 32 - 1
  short : length b.bytes < 2 ^ 32
  low : behind p.offset (b ∷ []) < 2 ^ 64

less : (n m : ℕ) → nat_lt n m ≡ true → n < m
less n m h = grind (arith, nat_tests)

three : (a b c : Bool) → (TooManySegments unless a >>= λ _. SegmentTooLong unless b >>= λ _. OffsetOverflow unless c) ≡ Ok tt → (a ≡ true) × (b ≡ true) × (c ≡ true)
three true true true h = (refl, refl, refl)
three true true false h = absurd cc
three true false c h = absurd cc
three false b c h = absurd cc

place_passes : (p : Place) (b : Buffer) → place_checks (b ∷ []) (segments_in p) ≡ Ok tt → PlacePasses p b
unfolding place_checks
place_passes p b h =
    let t = three (nat_lt (length (specs_in p)) (2 ^ 32 - 1)) (nat_lt (length (joined (b ∷ []))) (2 ^ 32)) (nat_lt (behind p.offset (b ∷ [])) (2 ^ 64)) h in
    record {
      few = omega (arith, less _ _ t.0, length-map p.laid (λ (l : Laid). l.spec));
      short = omega (arith, less _ _ t.1, ap length (append-nil b.bytes));
      low = less _ _ t.2;
    }

record ChunkPasses (k : Coding) (p : Place) (c : ChunkRows) : Type 0 where
  permitted : is_permitted k.ids c.rows ≡ true
  place : PlacePasses p (encoded_chunk k c).buffer

chunk_passes : (k : Coding) (p : Place) (c : ChunkRows) → chunk_checks k p c ≡ Ok tt → ChunkPasses k p c
chunk_passes k p c h = by (is_permitted k.ids c.rows) refl h
  where
    by : (b : Bool) → is_permitted k.ids c.rows ≡ b → (NotPermitted unless b >>= λ _. place_checks ((encoded_chunk k c).buffer ∷ []) (segments_in p)) ≡ Ok tt → ChunkPasses k p c
    by true e h = record { permitted = e; place = place_passes p (encoded_chunk k c).buffer h }
    by false e h = absurd cc

pub both_pass : (r s : Result (Unit {0}) WriteError) → (r >>= λ _. s) ≡ Ok tt → (r ≡ Ok tt) × (s ≡ Ok tt)
both_pass (Ok tt) s h = (refl, h)
both_pass (Err e) s h = absurd cc

-- ---- the segments of a place

pub record IsShort (s : SegmentSpec) : Type 0 where
  pub short : s.length < 2 ^ 32
  pub aligned : s.alignment ≤ 16

-- segments that lie in order before the offset
pub record Kept (p : Place) : Type 0 where
  pub laid : are_laid 0 (specs_in p) p.offset ≡ true
  pub each : AllByRecursion IsShort (specs_in p)
  pub low : p.offset < 2 ^ 64
  pub few : length p.laid < 2 ^ 32

pub kept_first : Kept first_place
kept_first = record { laid = refl; each = tt; low = omega arith; few = omega arith }

all_push : (ss : List SegmentSpec) (s : SegmentSpec) → AllByRecursion IsShort ss → IsShort s → AllByRecursion IsShort (ss ++ s ∷ [])
all_push [] s h k = (k, tt)
all_push (x ∷ ss) s h k = (h.0, all_push ss s h.1 k)

specs_push : (p : Place) (e : Encoded) → specs_in (with_chunk p e) ≡ specs_in p ++ spec_of p.offset (e.buffer ∷ []) ∷ []
unfolding with_chunk
specs_push p e = map-append (λ (l : Laid). l.spec) p.laid (record { spec = spec_of p.offset (e.buffer ∷ []); leaf = e.leaf; rows = e.rows } ∷ [])

offset_next : (p : Place) (e : Encoded) → (with_chunk p e).offset ≡ behind p.offset (e.buffer ∷ [])
unfolding with_chunk
offset_next p e = refl

laid_next : (p : Place) (e : Encoded) → length (with_chunk p e).laid ≡ length p.laid + 1
unfolding with_chunk
laid_next p e = length-append p.laid (record { spec = spec_of p.offset (e.buffer ∷ []); leaf = e.leaf; rows = e.rows } ∷ [])

kept_one : (k : Coding) (p : Place) (c : ChunkRows) → k.alignment ≤ 16 → Kept p → ChunkPasses k p c → Kept (with_chunk p (encoded_chunk k c))
kept_one k p c aligned kept passed =
    let e = encoded_chunk k c in
    let s = spec_of p.offset (e.buffer ∷ []) in
    let next = behind p.offset (e.buffer ∷ []) in
    let specs = specs_push p e in
    let laid = laid_push 0 (specs_in p) p.offset s next kept.laid (omega arith) (padded k.alignment p.offset) (omega arith) in
    let one : IsShort s = record { short = omega (arith, passed.place.short, ap length (append-nil e.buffer.bytes)); aligned = aligned } in
    record {
      laid = ap (λ ss. are_laid 0 ss (with_chunk p e).offset) specs ∙ ap (λ n. are_laid 0 (specs_in p ++ s ∷ []) n) (offset_next p e) ∙ laid;
      each = subst (λ (ss : List SegmentSpec). AllByRecursion IsShort ss) (sym specs) (all_push (specs_in p) s kept.each one);
      low = omega (arith, passed.place.low, offset_next p e);
      few = omega (arith, passed.place.few, laid_next p e);
    }

pub kept_all : (k : Coding) (p : Place) (cs : List ChunkRows) → k.alignment ≤ 16 → Kept p → chunks_checks k p cs ≡ Ok tt → Kept (with_chunks p (encoded_chunks k cs))
kept_all k p [] aligned kept h = kept
kept_all k p (c ∷ cs) aligned kept h =
    let t = both_pass (chunk_checks k p c) (chunks_checks k (with_chunk p (encoded_chunk k c)) cs) h in
    kept_all k (with_chunk p (encoded_chunk k c)) cs aligned (kept_one k p c aligned kept (chunk_passes k p c t.0)) t.1

-- ---- what is read of them

and_parts : (a b : Bool) → (a && b) ≡ true → (a ≡ true) × (b ≡ true)
and_parts true true h = (refl, refl)
and_parts true false h = absurd cc
and_parts false b h = absurd cc

and_true : (a b : Bool) → a ≡ true → b ≡ true → (a && b) ≡ true
and_true a b h k = ap (λ x. x && b) h ∙ k

at_most : (n m : ℕ) → nat_le n m ≡ true → n ≤ m
at_most n m h = grind (arith, nat_tests)

laid_ends : (from : ℕ) (ss : List SegmentSpec) (to : ℕ) → are_laid from ss to ≡ true → from ≤ to
laid_ends from [] to h = at_most from to h
laid_ends from (s ∷ ss) to h =
    let front = and_parts (nat_le from s.offset && (s.offset % 2 ^ s.alignment == 0)) (are_laid (s.offset + s.length) ss to) h in
    let first = at_most from s.offset (and_parts (nat_le from s.offset) (s.offset % 2 ^ s.alignment == 0) front.0).0 in
    omega (arith, first, laid_ends (s.offset + s.length) ss to front.1)

laid_rise : (from least : ℕ) (ss : List SegmentSpec) (to : ℕ) → least ≤ from → are_laid from ss to ≡ true → rise_from least ss ≡ true
laid_rise from least [] to low h = refl
laid_rise from least (s ∷ ss) to low h =
    let front = and_parts (nat_le from s.offset && (s.offset % 2 ^ s.alignment == 0)) (are_laid (s.offset + s.length) ss to) h in
    let first = at_most from s.offset (and_parts (nat_le from s.offset) (s.offset % 2 ^ s.alignment == 0) front.0).0 in
    and_true (nat_le least s.offset) (rise_from s.offset ss) (le-leb _ _ (omega (arith, low, first))) (laid_rise (s.offset + s.length) s.offset ss to (omega arith) front.1)

laid_within : (from : ℕ) (ss : List SegmentSpec) (to size : ℕ) → are_laid from ss to ≡ true → AllByRecursion IsShort ss → to < 2 ^ 64 → to ≤ size → AllByRecursion (IsSegment size) ss
laid_within from [] to size h short low inside = tt
laid_within from (s ∷ ss) to size h short low inside =
    let front = and_parts (nat_le from s.offset && (s.offset % 2 ^ s.alignment == 0)) (are_laid (s.offset + s.length) ss to) h in
    let ends = laid_ends (s.offset + s.length) ss to front.1 in
    let one : IsSegment size s = record { offset = omega (arith, ends, low); short = short.0.short; aligned = short.0.aligned; inside = omega (arith, ends, inside) } in
    (one, laid_within (s.offset + s.length) ss to size front.1 short.1 low inside)

pub kept_ordered : (p : Place) → Kept p → are_ordered (specs_in p) ≡ true
kept_ordered p h = laid_rise 0 0 (specs_in p) p.offset (omega arith) h.laid

pub kept_within : (p : Place) (size : ℕ) → Kept p → p.offset ≤ size → AllByRecursion (IsSegment size) (specs_in p)
kept_within p size h inside = laid_within 0 (specs_in p) p.offset size h.laid h.each h.low inside

-- ---- the bytes before a place

-- so many bytes went out before a place
pub record WentOut (b : List ℕ) (p : Place) : Type 0 where
  pub taken : p.taken ≡ length b
  pub offset : p.offset ≡ length b + length (lead p.taken)

pub none_out : WentOut [] first_place
none_out = record { taken = refl; offset = refl }

taken_next : (p : Place) (e : Encoded) → (with_chunk p e).taken ≡ p.taken + length (piece p e)
unfolding with_chunk
taken_next p e = refl

lead_is : (n : ℕ) → 0 < n → length (lead n) ≡ 0
lead_is n some = by (n == 0) refl
  where
    by : (b : Bool) → (n == 0) ≡ b → length (if b then magic else []) ≡ 0
    by true e = absurd (omega (arith, some, eqb-true n 0 e))
    by false e = refl

lead_some : (n : ℕ) → 0 < n + length (lead n)
lead_some n = by (n == 0) refl
  where
    by : (b : Bool) → (n == 0) ≡ b → 0 < n + length (if b then magic else [])
    by true e = omega arith
    by false e = let some = eqb-false n 0 e in omega (arith, some)

piece_long : (p : Place) (e : Encoded) → length (piece p e) ≡ length (lead p.taken) + (zeros_before p.offset (e.buffer ∷ []) + length (joined (e.buffer ∷ [])))
piece_long p e =
    let zeros = zeros_before p.offset (e.buffer ∷ []) in
    let filled : List ℕ = replicate zeros 0 in
    let bytes = joined (e.buffer ∷ []) in
    omega (arith, length-append (lead p.taken) (filled ++ bytes), length-append filled bytes, length-replicate {A = ℕ} zeros 0)

out_next : (b : List ℕ) (p : Place) (e : Encoded) → WentOut b p → WentOut (b ++ piece p e) (with_chunk p e)
out_next b p e h =
    let long = length-append b (piece p e) in
    let taken = taken_next p e in
    let size = piece_long p e in
    let none = lead_is (with_chunk p e).taken (omega (arith, taken, size, lead_some p.taken)) in
    record {
      taken = omega (arith, h.taken, taken, long);
      offset = omega (arith, h.offset, offset_next p e, none, size, long);
    }

pub out_all : (b : List ℕ) (p : Place) (es : List Encoded) → WentOut b p → WentOut (b ++ pieces p es) (with_chunks p es)
out_all b p [] h = subst (λ (x : List ℕ). WentOut x p) (sym (append-nil b)) h
out_all b p (e ∷ es) h =
    subst (λ (x : List ℕ). WentOut x (with_chunks (with_chunk p e) es)) (append_assoc b (piece p e) (pieces (with_chunk p e) es)) (out_all (b ++ piece p e) (with_chunk p e) es (out_next b p e h))

-- ---- the bytes of chunks

-- the segment with a number has the bytes of a chunk
pub record IsRead (bytes : ℕ → Option (List ℕ)) (k : Coding) (number : ℕ) (c : ChunkRows) : Type 0 where
  pub found : bytes number ≡ Some (array_bytes k.ids c.rows)
  pub permitted : is_permitted k.ids c.rows ≡ true
  pub short : length (array_bytes k.ids c.rows) < 2 ^ 32

abbrev pub AllRead : (ℕ → Option (List ℕ)) → Coding → ℕ → List ChunkRows → Type 0
AllRead bytes k number [] = Unit {0}
AllRead bytes k number (c ∷ cs) = IsRead bytes k number c × AllRead bytes k (number + 1) cs

pub record MoreSpecs (p q : Place) : Type 0 where
  pub others : List SegmentSpec
  pub is : specs_in q ≡ specs_in p ++ others

pub more_specs : (p : Place) (es : List Encoded) → MoreSpecs p (with_chunks p es)
more_specs p [] = record { others = []; is = sym (append-nil (specs_in p)) }
more_specs p (e ∷ es) =
    let m = more_specs (with_chunk p e) es in
    let s = spec_of p.offset (e.buffer ∷ []) in
    record {
      others = s ∷ m.others;
      is = m.is ∙ ap (λ ss. ss ++ m.others) (specs_push p e) ∙ append_assoc (specs_in p) (s ∷ []) m.others;
    }

get_behind : (xs ys : List SegmentSpec) (y : SegmentSpec) → slice_get (xs ++ y ∷ ys) (length xs) ≡ Some y
get_behind [] ys y = refl
get_behind (x ∷ xs) ys y = get_behind xs ys y

one_read : (file : List ℕ) (b rest : List ℕ) (p : Place) (e : Encoded) → WentOut b p → file ≡ b ++ (piece p e ++ rest) → bytes_at file (p.offset + zeros_before p.offset (e.buffer ∷ [])) (length (joined (e.buffer ∷ []))) ≡ e.buffer.bytes
one_read file b rest p e h is =
    let zeros = zeros_before p.offset (e.buffer ∷ []) in
    let filled : List ℕ = replicate zeros 0 in
    let bytes = joined (e.buffer ∷ []) in
    let l = lead p.taken in
    let whole : IsAt file (length b) (piece p e) = record { front = b; rest = rest; parts = is; place = refl } in
    let body = at_right file (length b) l (filled ++ bytes) whole in
    let content = at_right file (length b + length l) filled bytes body in
    let at = p.offset + zeros in
    let here : IsAt file at bytes = at_move file (length b + length l + length filled) at bytes (omega (arith, h.offset, length-replicate {A = ℕ} zeros 0)) content in
    at_drop file at bytes here (length bytes) refl ∙ append-nil e.buffer.bytes

pub chunks_read : (file : List ℕ) (specs : List SegmentSpec) (k : Coding) (b rest : List ℕ) (p : Place) (cs : List ChunkRows) (more : List SegmentSpec) → WentOut b p
    → file ≡ b ++ (pieces p (encoded_chunks k cs) ++ rest) → specs ≡ specs_in (with_chunks p (encoded_chunks k cs)) ++ more → chunks_checks k p cs ≡ Ok tt → AllRead (slices file specs) k (length p.laid) cs
chunks_read file specs k b rest p [] more h is listed checks = tt
chunks_read file specs k b rest p (c ∷ cs) more h is listed checks =
    let e = encoded_chunk k c in
    let es = encoded_chunks k cs in
    let q = with_chunk p e in
    let s = spec_of p.offset (e.buffer ∷ []) in
    let t = both_pass (chunk_checks k p c) (chunks_checks k q cs) checks in
    let passed = chunk_passes k p c t.0 in
    let m = more_specs q es in
    let here : file ≡ b ++ (piece p e ++ (pieces q es ++ rest)) = is ∙ ap (λ z. b ++ z) (append_assoc (piece p e) (pieces q es) rest) in
    let order : specs ≡ specs_in p ++ s ∷ (m.others ++ more) =
    listed ∙ ap (λ ss. ss ++ more) (m.is ∙ ap (λ ss. ss ++ m.others) (specs_push p e) ∙ append_assoc (specs_in p) (s ∷ []) m.others) ∙ append_assoc (specs_in p) (s ∷ m.others) more in
    let got : slice_get specs (length p.laid) ≡ Some s =
    ap (λ ss. slice_get ss (length p.laid)) order ∙ ap (λ n. slice_get (specs_in p ++ s ∷ (m.others ++ more)) n) (sym (length-map p.laid (λ (l : Laid). l.spec))) ∙ get_behind (specs_in p) (m.others ++ more) s in
    let first : IsRead (slices file specs) k (length p.laid) c = record {
      found = ap (option_map (λ (x : SegmentSpec). bytes_at file x.offset x.length)) got ∙ ap Some (one_read file b (pieces q es ++ rest) p e h here);
      permitted = passed.permitted;
      short = passed.place.short;
    } in
    let others = chunks_read file specs k (b ++ piece p e) rest q cs more (out_next b p e h) (here ∙ sym (append_assoc b (piece p e) (pieces q es ++ rest))) listed t.1 in
    (first, subst (λ n. AllRead (slices file specs) k n cs) (laid_next p e) others)
