-- Chunks that are placed one behind the other.
use Rattle.std.proofs.Common.{◌≡◌, ℕ, ◌+◌, ◌-◌, ◌<◌, ◌≤◌, ◌^◌, Bool, true, false, List, [], ◌∷◌, ◌++◌, length, map, Option, Ok, Err, refl, sym, ap, subst, ◌∙◌, arith, length-append}
use Rattle.std.specs.Prelude.{Result, IsOk, nat_lt, replicate, ◌==◌, if◌then◌else◌}
use Rattle.std.proofs.lemmas.Bool.{eqb-true, eqb-false}
use Rattle.std.proofs.lemmas.Bool.Decides.{nat_tests}
use Rattle.std.proofs.lemmas.List.{append-nil, length-replicate, length-map}
use Rattle.vx_base.specs.Buffer.{Buffer}
use Rattle.vx_base.specs.Checks.{◌>>=◌, ◌unless◌}
use Rattle.vx_footer.specs.Serialized.{joined}
use Rattle.vx_footer.specs.PostscriptWritten.{FailsToWrite}
use Rattle.vx_footer.specs.declared.write_error.WriteError.{WriteError}
use Rattle.vx_footer.specs.declared.write_error.WriteError.TheVariants.{TooManyMetadata, EmptyKey, LongKey, NotPermitted, TooDeep, TooManyTables, ChunkDType, RowsOverflow, ChunkFault, SegmentTooLong, TooManySegments, OffsetOverflow, WriteFault, WriterFailed, DuplicateKey, OutOfMemory}
use Rattle.vx_write.specs.declared.laid_chunk.Laid.{Laid}
use Rattle.vx_write.specs.Leaves.{ChunkRows}
use Rattle.vx_write.specs.Placed.{Place, Encoded, magic, segments_in, lead, piece, with_chunk, pieces, with_chunks, IsAlive, Wrote, Failed}
use Rattle.vx_write.specs.Sending.{Coding, encoded_chunk, encoded_chunks, chunk_checks, chunks_checks, Going}
use Rattle.vx_write.specs.Sinks.{spec_of, behind, zeros_before, place_checks}
use Rattle.vx_write.specs.Taken.{TookAll, TookPart, Sent, Checked}
use Rattle.vx_write.proofs.TakenLemmas.{no_part, sent_start, sent_step, sent_cut, sent_end}

-- ---- refusals

-- what a check tells is a refusal of it, but for want of memory
pub fails_checked : (A : Type 0) {B : Type 0} (e : WriteError) (answer : Result B WriteError) → FailsToWrite e answer → Checked {A = A} (Err e) answer
fails_checked A OutOfMemory answer h = λ fault memory. absurd (memory refl)
fails_checked A WriteFault answer h = λ fault memory. h
fails_checked A TooManyMetadata answer h = λ fault memory. h
fails_checked A EmptyKey answer h = λ fault memory. h
fails_checked A LongKey answer h = λ fault memory. h
fails_checked A NotPermitted answer h = λ fault memory. h
fails_checked A TooDeep answer h = λ fault memory. h
fails_checked A TooManyTables answer h = λ fault memory. h
fails_checked A ChunkDType answer h = λ fault memory. h
fails_checked A RowsOverflow answer h = λ fault memory. h
fails_checked A ChunkFault answer h = λ fault memory. h
fails_checked A SegmentTooLong answer h = λ fault memory. h
fails_checked A TooManySegments answer h = λ fault memory. h
fails_checked A OffsetOverflow answer h = λ fault memory. h
fails_checked A WriterFailed answer h = λ fault memory. h
fails_checked A DuplicateKey answer h = λ fault memory. h

-- ---- one chunk

same_place : (p q : Place) → p.laid ≡ q.laid → p.offset ≡ q.offset → p.taken ≡ q.taken → p ≡ q
same_place p q laid offset taken =
    ap (λ l. record { laid = l; offset = p.offset; taken = p.taken }) laid ∙ ap (λ n. record { laid = q.laid; offset = n; taken = p.taken }) offset ∙ ap (λ n. record { laid = q.laid; offset = q.offset; taken = n }) taken

some-checks : (a b c : Bool) → (TooManySegments unless a >>= λ _. SegmentTooLong unless b >>= λ _. OffsetOverflow unless c) ≡ Ok tt → c ≡ true
some-checks true true true h = refl
some-checks true true false h = cc
some-checks true false c h = cc
some-checks false b c h = cc

-- a chunk that may stand at a place ends within the offsets
pub chunk_within : (p : Place) (b : Buffer) → place_checks (b ∷ []) (segments_in p) ≡ Ok tt → behind p.offset (b ∷ []) < 2 ^ 64
unfolding place_checks
chunk_within p b h =
    let short : nat_lt (behind p.offset (b ∷ [])) (2 ^ 64) ≡ true = some-checks (nat_lt (length (map (λ (l : Laid). l.spec) p.laid)) (2 ^ 32 - 1)) (nat_lt (length (joined (b ∷ []))) (2 ^ 32)) _ h in
    grind (arith, nat_tests)

-- the magic goes out where nothing did, and then there are bytes before the chunk that no chunk has
ends : (b : Bool) (taken offset rest : ℕ) → (taken == 0) ≡ b → 4 ≤ offset → taken ≤ offset → taken + (length (if b then magic else []) + rest) ≤ offset + rest
ends true taken offset rest is begun counted = let none = eqb-true taken 0 is in omega (arith, none, begun)
ends false taken offset rest is begun counted = omega (arith, counted)

lead-ends : (taken offset rest : ℕ) → 4 ≤ offset → taken ≤ offset → taken + (length (lead taken) + rest) ≤ offset + rest
lead-ends taken offset rest begun counted = ends (taken == 0) taken offset rest refl begun counted

piece-size : (p : Place) (c : Encoded) → length (piece p c) ≡ length (lead p.taken) + (zeros_before p.offset (c.buffer ∷ []) + length (joined (c.buffer ∷ [])))
piece-size p c =
    let zeros = zeros_before p.offset (c.buffer ∷ []) in
    let bytes = joined (c.buffer ∷ []) in
    length-append (lead p.taken) (replicate zeros 0 ++ bytes) ∙ ap (λ n. length (lead p.taken) + n) (length-append (replicate zeros 0) bytes ∙ ap (λ n. n + length bytes) (length-replicate zeros 0))

-- no more bytes go out with a chunk than lie before its end
pub piece_ends : (p : Place) (c : Encoded) → IsAlive p → p.taken + length (piece p c) ≤ behind p.offset (c.buffer ∷ [])
piece_ends p c alive =
    let zeros = zeros_before p.offset (c.buffer ∷ []) in
    let size = length (joined (c.buffer ∷ [])) in
    omega (arith, piece-size p c, lead-ends p.taken p.offset (zeros + size) alive.begun alive.counted)

pub piece_fits : (p : Place) (c : Encoded) → IsAlive p → place_checks (c.buffer ∷ []) (segments_in p) ≡ Ok tt → p.taken + length (piece p c) < 2 ^ 64
piece_fits p c alive fits = omega (arith, piece_ends p c alive, chunk_within p c.buffer fits)

pub alive_after : (p : Place) (c : Encoded) → IsAlive p → length p.laid < 2 ^ 32 - 1 → IsAlive (with_chunk p c)
unfolding with_chunk
alive_after p c alive few = record {
  begun = omega (arith, alive.begun);
  counted = piece_ends p c alive;
  few = omega (arith, few, length-append p.laid (record { spec = spec_of p.offset (c.buffer ∷ []); leaf = c.leaf; rows = c.rows } ∷ []));
}

-- a chunk was written
pub wrote_one : (p now : Place) (c : Encoded) (g h : Option (List ℕ)) → IsAlive p → length p.laid < 2 ^ 32 - 1 → TookAll (piece p c) g h p.taken now.taken
    → now.laid ≡ p.laid ++ record { spec = spec_of p.offset (c.buffer ∷ []); leaf = c.leaf; rows = c.rows } ∷ [] → now.offset ≡ behind p.offset (c.buffer ∷ []) → Wrote p (c ∷ []) g now h
unfolding with_chunk
wrote_one p now c g h alive few took laid offset =
    let is : now ≡ with_chunk p c = same_place now (with_chunk p c) laid offset took.counted in
    record {
      took = subst (λ t. TookAll t g h p.taken now.taken) (sym (append-nil (piece p c))) took;
      place = is;
      alive = subst IsAlive (sym is) (alive_after p c alive few);
    }

-- a chunk was not written, but for some first bytes
pub failed_one : (p now : Place) (c : Encoded) (g h : Option (List ℕ)) → TookPart (piece p c) g h p.taken now.taken → now.laid ≡ p.laid → now.offset ≡ p.offset → Failed p (c ∷ []) g now h
failed_one p now c g h took laid offset = record {
  took = subst (λ t. TookPart t g h p.taken now.taken) (sym (append-nil (piece p c))) took;
  quiet = λ none. same_place now p laid offset (omega (arith, none, took.counted));
}

-- no byte went out
pub failed_before : (p now : Place) (cs : List Encoded) (g h : Option (List ℕ)) → now ≡ p → h ≡ g → Failed p cs g now h
failed_before p now cs g h is same = record {
  took = subst (λ (q : Place). TookPart (pieces p cs) g h p.taken q.taken) (sym is) (subst (λ k. TookPart (pieces p cs) g k p.taken p.taken) (sym same) (no_part (pieces p cs) g p.taken));
  quiet = λ none. is;
}

-- ---- chunks behind others

pub going_start : (k : Coding) (p : Place) (all : List ChunkRows) (g : Option (List ℕ)) → IsAlive p → Going k p all all g p g
going_start k p all g alive = record { sent = sent_start (pieces p (encoded_chunks k all)) g p.taken; place = refl; checks = refl; alive = alive; quiet = λ none. refl }

passed : (k : Coding) (p : Place) (c : ChunkRows) (cs : List ChunkRows) → IsOk (chunk_checks k p c) → chunks_checks k p (c ∷ cs) ≡ chunks_checks k (with_chunk p (encoded_chunk k c)) cs
passed k p c cs ok = by (chunk_checks k p c) ok
  where
    by : (r : Result (Unit {0}) WriteError) → IsOk r → (r >>= λ _. chunks_checks k (with_chunk p (encoded_chunk k c)) cs) ≡ chunks_checks k (with_chunk p (encoded_chunk k c)) cs
    by (Ok x) h = refl
    by (Err e) h = cc

-- where a byte went out before, one went out after
never_less : (bytes : List ℕ) (g h : Option (List ℕ)) (l m : ℕ) → TookAll bytes g h l m → m ≡ 0 → l ≡ 0
never_less bytes g h l m took none = omega (arith, none, took.counted)

never_nothing : (p : Place) (c : Encoded) (g h : Option (List ℕ)) (m : ℕ) → TookAll (piece p c) g h p.taken m → m ≡ 0 → ⊥
never_nothing p c g h m took none = some (p.taken == 0) refl
  where
    some : (b : Bool) → (p.taken == 0) ≡ b → ⊥
    some true is =
        let size : length (lead p.taken) ≡ 4 = ap (λ x. length (if x then magic else [])) is in
        omega (arith, none, took.counted, piece-size p c, size)
    some false is = eqb-false p.taken 0 is (omega (arith, none, took.counted))

pub going_step : (k : Coding) (p now next : Place) (all cs : List ChunkRows) (c : ChunkRows) (g h j : Option (List ℕ)) → Going k p all (c ∷ cs) g now h
    → Wrote now (encoded_chunk k c ∷ []) h next j → IsOk (chunk_checks k now c) → Going k p all cs g next j
going_step k p now next all cs c g h j going wrote ok =
    let piece-took : TookAll (piece now (encoded_chunk k c)) h j now.taken next.taken = subst (λ t. TookAll t h j now.taken next.taken) (append-nil (piece now (encoded_chunk k c))) wrote.took in
    record {
      sent = subst (λ q. Sent (pieces p (encoded_chunks k all)) (pieces q (encoded_chunks k cs)) g j p.taken next.taken) (sym wrote.place)
          (sent_step (pieces p (encoded_chunks k all)) (piece now (encoded_chunk k c)) (pieces (with_chunk now (encoded_chunk k c)) (encoded_chunks k cs)) g h j p.taken now.taken next.taken going.sent piece-took);
      place = going.place ∙ sym (ap (λ q. with_chunks q (encoded_chunks k cs)) wrote.place);
      checks = going.checks ∙ passed k now c cs ok ∙ sym (ap (λ q. chunks_checks k q cs) wrote.place);
      alive = wrote.alive;
      quiet = λ none. absurd (never_nothing now (encoded_chunk k c) h j next.taken piece-took none);
    }

pub going_failed : (k : Coding) (p now next : Place) (all cs : List ChunkRows) (c : ChunkRows) (g h j : Option (List ℕ)) → Going k p all (c ∷ cs) g now h
    → Failed now (encoded_chunk k c ∷ []) h next j → Failed p (encoded_chunks k all) g next j
going_failed k p now next all cs c g h j going failed =
    let part : TookPart (piece now (encoded_chunk k c)) h j now.taken next.taken = subst (λ t. TookPart t h j now.taken next.taken) (append-nil (piece now (encoded_chunk k c))) failed.took in
    record {
      took = sent_cut (pieces p (encoded_chunks k all)) (piece now (encoded_chunk k c)) (pieces (with_chunk now (encoded_chunk k c)) (encoded_chunks k cs)) g h j p.taken now.taken next.taken going.sent part;
      quiet = λ none. let same = failed.quiet none in same ∙ going.quiet (sym (ap (λ (q : Place). q.taken) same) ∙ none);
    }

pub going_checks : (A B : Type 0) (k : Coding) (p now : Place) (all cs : List ChunkRows) (c : ChunkRows) (g h : Option (List ℕ)) (e : WriteError) → Going k p all (c ∷ cs) g now h
    → Checked {A = A} (Err e) (chunk_checks k now c) → Checked {A = B} (Err e) (chunks_checks k p all)
going_checks A B k p now all cs c g h e going checked = λ fault memory. going.checks ∙ ap (λ r. r >>= λ _. chunks_checks k (with_chunk now (encoded_chunk k c)) cs) (checked fault memory)

pub going_end : (k : Coding) (p now : Place) (all : List ChunkRows) (g h : Option (List ℕ)) → Going k p all [] g now h → Wrote p (encoded_chunks k all) g now h
going_end k p now all g h going = record {
  took = sent_end (pieces p (encoded_chunks k all)) [] g h p.taken now.taken going.sent refl;
  place = sym going.place;
  alive = going.alive;
}

-- ---- too many segments, or too long a one

pub specs_many : (ls : List Laid) (n : ℕ) → n ≡ length ls → n ≡ length (map (λ (l : Laid). l.spec) ls)
specs_many ls n is = is ∙ sym (length-map ls (λ (l : Laid). l.spec))

checks-many : (a b c : Bool) → a ≡ false → (TooManySegments unless a >>= λ _. SegmentTooLong unless b >>= λ _. OffsetOverflow unless c) ≡ Err TooManySegments
checks-many a b c h = rw h refl

checks-long : (a b c : Bool) → a ≡ true → b ≡ false → (TooManySegments unless a >>= λ _. SegmentTooLong unless b >>= λ _. OffsetOverflow unless c) ≡ Err SegmentTooLong
checks-long a b c h k = rw (h, k) refl

pub one_too_many : (p : Place) (b : Buffer) → 2 ^ 32 - 1 ≤ length p.laid → place_checks (b ∷ []) (segments_in p) ≡ Err TooManySegments
unfolding place_checks
one_too_many p b many =
    let size = length-map p.laid (λ (l : Laid). l.spec) in
    checks-many _ _ _ (let few : nat_lt (length (map (λ (l : Laid). l.spec) p.laid)) (2 ^ 32 - 1) ≡ false = not-below _ _ (omega (arith, many, size)) in few)
  where
    not-below : (n m : ℕ) → m ≤ n → nat_lt n m ≡ false
    not-below n m h = grind (arith, nat_tests)

pub one_too_long : (p : Place) (b : Buffer) → length p.laid < 2 ^ 32 - 1 → 2 ^ 32 ≤ length b.bytes → place_checks (b ∷ []) (segments_in p) ≡ Err SegmentTooLong
unfolding place_checks
one_too_long p b few long =
    let size = length-map p.laid (λ (l : Laid). l.spec) in
    let bytes = length-append b.bytes [] in
    checks-long _ _ _ (below (length (map (λ (l : Laid). l.spec) p.laid)) (2 ^ 32 - 1) (omega (arith, few, size))) (not-below (length (joined (b ∷ []))) (2 ^ 32) (omega (arith, long, bytes)))
  where
    below : (n m : ℕ) → n < m → nat_lt n m ≡ true
    below n m h = grind (arith, nat_tests)

    not-below : (n m : ℕ) → m ≤ n → nat_lt n m ≡ false
    not-below n m h = grind (arith, nat_tests)
