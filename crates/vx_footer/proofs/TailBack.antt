-- The end marker and the tables of a written file, where they lie in it.
use Rattle.std.proofs.Common.{◌≡◌, ℕ, ◌+◌, ◌-◌, ◌<◌, ◌^◌, true, List, ◌++◌, length, take, drop, Some, Ok, refl, sym, ap, ◌∙◌, arith, append_assoc, length-append}
use Rattle.std.specs.Prelude.{nat_le, codes}
use Rattle.std.specs.Str.{bytes_eq}
use Rattle.std.specs.Int.{w16, from_le_bytes}
use Rattle.std.proofs.lemmas.Bool.{le-leb}
use Rattle.std.proofs.lemmas.Nat.{from_le_bytes-to_le_bytes_2}
use Rattle.std.proofs.lemmas.List.{drop_at, take_at}
use Rattle.vx_base.specs.Buffer.{bytes_at}
use Rattle.vx_tables.specs.Standing.{IsAt}
use Rattle.vx_tables.proofs.Places.{at_drop, at_inside}
use Rattle.vx_footer.specs.declared.version.FileVersion.TheVariants.{V1}
use Rattle.vx_footer.specs.Opening.{marker_of, version_of, version_number, postscript_length, ends_with_magic, postscript_bytes, marker_checks, end_checks, table_bytes}
use Rattle.vx_footer.specs.Serialized.{end_marker, place}

-- the size that a marker says
size_back : (n : ℕ) → n < 2 ^ 16 → from_le_bytes w16 (take 2 (drop 2 (end_marker n))) ≡ n
size_back n lt = from_le_bytes-to_le_bytes_2 n lt

version_back : (n : ℕ) → version_of (from_le_bytes w16 (take 2 (end_marker n))) ≡ Some V1
version_back n = refl

magic_back : (n : ℕ) → bytes_eq (drop 4 (end_marker n)) (codes "VTXF") ≡ true
magic_back n = refl

length-marker : (n : ℕ) → length (end_marker n) ≡ 8
length-marker n = refl

-- the postscript and the end marker behind other bytes
pub end_back : (front postscript : List ℕ) → length postscript ≡ 113 → end_checks (front ++ (postscript ++ end_marker (length postscript))) ≡ Ok (V1, postscript)
unfolding end_checks marker_checks
end_back front postscript size =
    let n = length postscript in
    let rest = postscript ++ end_marker n in
    let file = front ++ rest in
    let long : length file ≡ length front + (n + 8) = length-append front rest ∙ ap (λ m. length front + m) (length-append postscript (end_marker n)) in
    let marker : marker_of file ≡ end_marker n = ap (drop (length file - 8)) (sym (append_assoc front postscript (end_marker n))) ∙ drop_at (front ++ postscript) (end_marker n) (length file - 8) (length-append front postscript ∙ omega (arith, long)) in
    let whole : nat_le 8 (length file) ≡ true = le-leb _ _ (omega (arith, long)) in
    let magic : ends_with_magic file ≡ true = ap (λ m. bytes_eq (drop 4 m) (codes "VTXF")) marker ∙ magic_back n in
    let version : version_of (version_number file) ≡ Some V1 = ap (λ m. version_of (from_le_bytes w16 (take 2 m))) marker ∙ version_back n in
    let size_is : postscript_length file ≡ n = ap (λ m. from_le_bytes w16 (take 2 (drop 2 m))) marker ∙ size_back n (omega (arith, size)) in
    let short : nat_le (postscript_length file) 65527 ≡ true = le-leb _ _ (omega (arith, size_is, size)) in
    let fits : nat_le (postscript_length file + 8) (length file) ≡ true = le-leb _ _ (omega (arith, size_is, long)) in
    let bytes : postscript_bytes file ≡ postscript =
    ap (λ m. bytes_at file (length file - 8 - m) m) size_is
    ∙ ap (take n) (drop_at front rest (length file - 8 - n) (omega (arith, long)))
    ∙ take_at postscript (end_marker n) n refl in
    rw (whole, magic, version, short, fits) (ap (λ b. Ok (V1, b)) bytes)

-- a table where it lies
pub table_back : (file : List ℕ) (at : ℕ) (bytes : List ℕ) → IsAt file at bytes → table_bytes file (place at bytes) ≡ Some bytes
table_back file at bytes h =
    let inside : nat_le (at + length bytes) (length file) ≡ true = le-leb _ _ (at_inside file at bytes h) in
    rw inside (ap (λ b. Some b) (at_drop file at bytes h (length bytes) refl))
