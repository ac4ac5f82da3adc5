-- Files that are read one after the other.
use Rattle.std.proofs.Common.{◌≡◌, ℕ, zero, suc, ◌+◌, ◌≤◌, ◌<◌, List, [], ◌∷◌, ◌++◌, length, take, get_or, Option, Some, None, refl, sym, ap, subst, ◌∙◌, arith, append_assoc, append-nil, add-one, inl, inr}
use Rattle.std.specs.Prelude.{slice_get, map, string_bytes, String, ◌⊎◌}
use Rattle.std.specs.declared.alloc.Global.{Global}
use Rattle.std.proofs.lemmas.Option.{slice_get_read, slice_get-map}
use Rattle.std.specs.Option.{option_map}
use Rattle.vx_base.specs.Openers.{OpenerState, AsksFor}
use Rattle.vx_data.specs.Dtype.{Dtype}
use Rattle.vx_rows.specs.LayoutRows.{joined}
use Rattle.vx_rows.specs.Rows.{Rows, rows_len, dtype_of, IsColumn}
use Rattle.vx_file.specs.declared.multi_error.MultiError.{MultiError}
use Rattle.vx_file.specs.declared.multi_error.MultiError.TheVariants as errors
use Rattle.vx_file.specs.declared.served.ServeError.{ServeError}
use Rattle.vx_file.specs.OpenRead.{Held}
use Rattle.vx_file.specs.MultiFiles.{Choice, HasRows, names_of, FailsAs, StopsOpening, ReadsAs, AreReadAs, AsksForAll, StopsReading, StopsAmong, StopsAtFile}
use Rattle.vx_file.specs.Scans.{AreChunks}

-- ---- what an opener is asked for

no_names : (asked : Option (List (List ℕ))) → asked ≡ option_map (λ names. names ++ []) asked
no_names None = refl
no_names (Some names) = ap Some (sym (append-nil names))

pub asks_none : (a : OpenerState) → AsksForAll [] a a
asks_none a = no_names a.asked

joined_names : (asked : Option (List (List ℕ))) (xs ys : List (List ℕ)) → option_map (λ names. names ++ ys) (option_map (λ names. names ++ xs) asked) ≡ option_map (λ names. names ++ (xs ++ ys)) asked
joined_names None xs ys = refl
joined_names (Some names) xs ys = ap Some (append_assoc names xs ys)

pub asks_more : (xs : List (List ℕ)) (name : List ℕ) (a b c : OpenerState) → AsksForAll xs a b → AsksFor name b c → AsksForAll (xs ++ name ∷ []) a c
asks_more xs name a b c h k = k ∙ (ap (option_map (λ names. names ++ name ∷ [])) h ∙ joined_names a.asked xs (name ∷ []))

-- ---- what is read

pub reads_more : (Chosen : Choice) (d : Dtype) (xs : List (List ℕ)) (name : List ℕ) (a b c : OpenerState) (cs : List Rows) (more : Rows)
    → AreReadAs Chosen d xs a b cs → ReadsAs Chosen d name b c more → AreReadAs Chosen d (xs ++ name ∷ []) a c (cs ++ more ∷ [])
reads_more Chosen d [] name a b c [] more h k = (c, subst (λ s. ReadsAs Chosen d name s c more) h k, refl)
reads_more Chosen d [] name a b c (r ∷ rs) more h k = absurd h
reads_more Chosen d (x ∷ xs) name a b c [] more h k = absurd h
reads_more Chosen d (x ∷ xs) name a b c (r ∷ rs) more h k = (h.0, h.1, reads_more Chosen d xs name h.0 b c rs more h.2 k)

pub chunks_of : (Chosen : Choice) (d : Dtype) (xs : List (List ℕ)) (a b : OpenerState) (cs : List Rows) → AreReadAs Chosen d xs a b cs → AreChunks d cs
chunks_of Chosen d [] a b [] h = tt
chunks_of Chosen d [] a b (r ∷ rs) h = absurd h
chunks_of Chosen d (x ∷ xs) a b [] h = absurd h
chunks_of Chosen d (x ∷ xs) a b (r ∷ rs) h = ((h.1.rows.typed ∙ h.1.typed, h.1.rows.sound), chunks_of Chosen d xs h.0 b rs h.2)

-- ---- the loop over names

take_next : {X : Type 0} (xs : List X) (i : ℕ) (x : X) → slice_get xs i ≡ Some x → take (suc i) xs ≡ take i xs ++ x ∷ []
take_next [] i x e = cc
take_next (y ∷ ys) zero x e = cc
take_next (y ∷ ys) (suc i) x e = ap (λ zs. y ∷ zs) (take_next ys i x e)

take_whole : {X : Type 0} (xs : List X) (i : ℕ) → length xs ≤ i → take i xs ≡ xs
take_whole [] zero h = refl
take_whole [] (suc i) h = refl
take_whole (x ∷ xs) zero h = absurd (omega (arith, h))
take_whole (x ∷ xs) (suc i) h = ap (λ zs. x ∷ zs) (take_whole xs i (omega (arith, h)))

-- so many of the names were read, behind other columns
pub record Reads (Chosen : Choice) (d : Dtype) (names : List (List ℕ)) (at : ℕ) (before now : OpenerState) (front columns : List Rows) : Type 0 where
  pub rows : List Rows
  pub grown : columns ≡ front ++ rows
  pub read : AreReadAs Chosen d (take at names) before now rows
  pub asked : AsksForAll (take at names) before now

pub reads_begin : (Chosen : Choice) (d : Dtype) (names : List (List ℕ)) (before : OpenerState) (front : List Rows) → Reads Chosen d names 0 before before front front
reads_begin Chosen d names before front = record { rows = []; grown = sym (append-nil front); read = refl; asked = asks_none before }

pub reads_next : (Chosen : Choice) (d : Dtype) (names : List (List ℕ)) (at : ℕ) (name : List ℕ) (before now after : OpenerState) (front columns columns' : List Rows) (c : Rows)
    → slice_get names at ≡ Some name → Reads Chosen d names at before now front columns → ReadsAs Chosen d name now after c → AsksFor name now after
    → columns' ≡ columns ++ c ∷ [] → Reads Chosen d names (at + 1) before after front columns'
reads_next Chosen d names at name before now after front columns columns' c named r more asks grown =
    let longer : take (at + 1) names ≡ take at names ++ name ∷ [] = ap (λ n. take n names) (add-one at) ∙ take_next names at name named in
    record {
      rows = r.rows ++ c ∷ [];
      grown = grown ∙ (ap (λ xs. xs ++ c ∷ []) r.grown ∙ append_assoc front r.rows (c ∷ []));
      read = subst (λ xs. AreReadAs Chosen d xs before after (r.rows ++ c ∷ [])) (sym longer) (reads_more Chosen d (take at names) name before now after r.rows c r.read more);
      asked = subst (λ xs. AsksForAll xs before after) (sym longer) (asks_more (take at names) name before now after r.asked asks);
    }

pub reads_all : (Chosen : Choice) (d : Dtype) (names : List (List ℕ)) (at : ℕ) (before now : OpenerState) (front columns : List Rows)
    → length names ≤ at → Reads Chosen d names at before now front columns
    → (cs : List Rows) × (columns ≡ front ++ cs) × AreReadAs Chosen d names before now cs
reads_all Chosen d names at before now front columns past r =
    (r.rows, r.grown, subst (λ xs. AreReadAs Chosen d xs before now r.rows) (take_whole names at past) r.read)

pub asks_all : (Chosen : Choice) (d : Dtype) (names : List (List ℕ)) (at : ℕ) (before now : OpenerState) (front columns : List Rows)
    → length names ≤ at → Reads Chosen d names at before now front columns → AsksForAll names before now
asks_all Chosen d names at before now front columns past r = subst (λ xs. AsksForAll xs before now) (take_whole names at past) r.asked

-- ---- a file that is not read

pub serve_stops : {Chosen : Choice} {at : ℕ} {name : List ℕ} {before now : OpenerState} (x : ServeError) (e : MultiError)
    → errors.Serve at x ≡ e → FailsAs Chosen name before now x → StopsOpening Chosen at name before now e
serve_stops {Chosen} {at} {name} {before} {now} x e is h = subst (λ y. StopsOpening Chosen at name before now y) is (refl, h)

among : (Chosen : Choice) (d : Dtype) (names : List (List ℕ)) (before after : OpenerState) (e : MultiError)
    → StopsAtFile Chosen d 1 names before after e → StopsAmong Chosen d 1 names before after e
among Chosen d names before after errors.NoFiles k = k
among Chosen d names before after (errors.Opener i) k = k
among Chosen d names before after (errors.Serve i x) k = k
among Chosen d names before after (errors.DTypeMismatch i) k = k
among Chosen d names before after (errors.Scan i x) k = k
among Chosen d names before after errors.OutOfMemory k = tt

pub stops_among : (Chosen : Choice) (d : Dtype) (names : List (List ℕ)) (at : ℕ) (name : List ℕ) (before now after : OpenerState) (front columns : List Rows) (e : MultiError)
    → slice_get names at ≡ Some name → Reads Chosen d names at before now front columns → StopsReading Chosen d (at + 1) name now after e
    → StopsAmong Chosen d 1 names before after e
stops_among Chosen d names at name before now after front columns e named r h =
    let index : at + 1 ≡ 1 + at = omega arith in
    among Chosen d names before after e (record {
      place = at;
      name = name;
      between = now;
      columns = r.rows;
      named = named;
      read = r.read;
      stops = subst (λ n. StopsReading Chosen d n name now after e) index h;
    })

-- names in front were asked for, whether the next one was or not
pub asks_some : (names : List (List ℕ)) (at : ℕ) (name : List ℕ) (before now after : OpenerState) → slice_get names at ≡ Some name → AsksForAll (take at names) before now
    → AsksFor name now after ⊎ (after.asked ≡ now.asked) → (k : ℕ) × AsksForAll (take k names) before after
asks_some names at name before now after named h (inl asks) =
    (suc at, subst (λ xs. AsksForAll xs before after) (sym (take_next names at name named)) (asks_more (take at names) name before now after h asks))
asks_some names at name before now after named h (inr same) = (at, same ∙ h)

pub opening_reading : (Chosen : Choice) (d : Dtype) (at : ℕ) (name : List ℕ) (before now : OpenerState) (e : MultiError)
    → StopsOpening Chosen at name before now e → StopsReading Chosen d at name before now e
opening_reading Chosen d at name before now errors.NoFiles h = h
opening_reading Chosen d at name before now (errors.Opener i) h = h
opening_reading Chosen d at name before now (errors.Serve i x) h = h
opening_reading Chosen d at name before now (errors.DTypeMismatch i) h = absurd h
opening_reading Chosen d at name before now (errors.Scan i x) h = absurd h
opening_reading Chosen d at name before now errors.OutOfMemory h = h

-- ---- names in front

pub name_there : (names : List (String Global)) (at : ℕ) (s : String Global) → at < length names → s ≡ get_or names at s
    → slice_get (map string_bytes names) at ≡ Some (string_bytes s)
name_there names at s inside is = slice_get-map string_bytes names at ∙ ap (option_map string_bytes) (slice_get_read names (length names) at s refl inside is)

-- ---- the rows of all files

pub chunks_joined : (Chosen : Choice) (d' : Dtype) (names : List (List ℕ)) (a b : OpenerState) (d : Dtype) (front : Rows) (columns : List Rows)
    → d' ≡ d → dtype_of front ≡ d → IsColumn (rows_len front) front
    → (cs : List Rows) × (columns ≡ (front ∷ []) ++ cs) × AreReadAs Chosen d' names a b cs → AreChunks d columns
chunks_joined Chosen d' names a b d front columns same typed sound r =
    let rest : AreChunks d r.0 = chunks_of Chosen d names a b r.0 (subst (λ x. AreReadAs Chosen x names a b r.0) same r.2) in
    subst (AreChunks d) (sym r.1) ((typed, sound), rest)

pub moved_stops : (Chosen : Choice) (d d' : Dtype) (names names' : List (List ℕ)) (a b : OpenerState) (e : MultiError)
    → d' ≡ d → names' ≡ names → StopsAmong Chosen d' 1 names' a b e → StopsAmong Chosen d 1 names a b e
moved_stops Chosen d d' names names' a b e same named h =
    subst (λ ns. StopsAmong Chosen d 1 ns a b e) named (subst (λ x. StopsAmong Chosen x 1 names' a b e) same h)

pub moved_read : (Chosen : Choice) (d d' : Dtype) (names names' : List (List ℕ)) (a b : OpenerState) (cs : List Rows)
    → d' ≡ d → names' ≡ names → AreReadAs Chosen d' names' a b cs → AreReadAs Chosen d names a b cs
moved_read Chosen d d' names names' a b cs same named h =
    subst (λ ns. AreReadAs Chosen d ns a b cs) named (subst (λ x. AreReadAs Chosen x names' a b cs) same h)

-- ---- the first of the names

first_items : (items : List (String Global)) (s : String Global) (bytes : List ℕ) → (length items ≡ 0 → ⊥) → s ≡ get_or items 0 s → bytes ≡ string_bytes s
    → take 1 (map string_bytes items) ≡ bytes ∷ []
first_items [] s bytes some is b = absurd (some refl)
first_items (x ∷ xs) s bytes some is b = ap (λ y. y ∷ []) (sym (b ∙ ap string_bytes is))

pub first_there : (names : Option (List (String Global))) (inside items : List (String Global)) (s : String Global) (bytes : List ℕ) (count : ℕ)
    → names ≡ Some inside → items ≡ inside → (count ≡ 0 → ⊥) → count ≡ length items → s ≡ get_or items 0 s → bytes ≡ string_bytes s
    → take 1 (names_of names) ≡ bytes ∷ []
first_there names inside items s bytes count named same some counted is b =
    ap (λ ns. take 1 (names_of ns)) (named ∙ ap Some (sym same)) ∙ first_items items s bytes (subst (λ n. n ≡ 0 → ⊥) counted some) is b
