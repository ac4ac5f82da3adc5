-- The footer of a file that ends in a written one is read back.
use Rattle.std.proofs.Common.{◌≡◌, ℕ, ◌+◌, ◌<◌, ◌≤◌, ◌^◌, true, List, [], ◌∷◌, ◌++◌, length, Ok, None, refl, sym, ap, subst, ◌∙◌, arith, append_assoc, length-append}
use Rattle.std.specs.Prelude.{nat_le}
use Rattle.std.proofs.lemmas.Bool.{le-leb}
use Rattle.std.proofs.lemmas.List.{append-nil}
use Rattle.vx_base.specs.declared.segment.SegmentSpec.{SegmentSpec}
use Rattle.vx_tables.specs.Block.{root_bytes}
use Rattle.vx_tables.specs.Standing.{IsAt}
use Rattle.vx_tables.proofs.Places.{at_left, at_right, at_move}
use Rattle.vx_data.specs.declared.layout_kind.LayoutKind.TheVariants.{Flat}
use Rattle.vx_data.specs.Dtype.{Dtype}
use Rattle.vx_data.specs.DtypeTable.{dtype_checks}
use Rattle.vx_data.specs.DtypeWritten.{pieces_of}
use Rattle.vx_data.specs.Layout.{node, no_layouts, dtype_of}
use Rattle.vx_data.specs.LayoutWritten.{tree_pieces}
use Rattle.vx_footer.specs.declared.version.FileVersion.TheVariants.{V1}
use Rattle.vx_footer.specs.Footers.{FooterContent}
use Rattle.vx_footer.specs.Opening.{end_checks, tail_checks, table_bytes, segments_checks, content_checks, table_checks, extent_check, footer_of, vx_grammar}
use Rattle.vx_footer.specs.Serialized.{flat_id, ids_bytes, dtype_bytes, layout_bytes, footer_bytes, places, postscript_bytes, end_marker, serialized}
use Rattle.vx_footer.specs.Writable.{IsWritable}
use Rattle.vx_footer.proofs.TablesBack.{dtype_checked, flat_pieces, layout_checked, postscript_with, postscript_checked, length-postscript}
use Rattle.vx_footer.proofs.FooterBack.{segment_row, footer_back}
use Rattle.vx_footer.proofs.TailBack.{end_back, table_back}

-- ---- the checks on each table

segments_checked : (s : SegmentSpec) → s.alignment ≤ 16 → segments_checks (segment_row s ∷ []) ≡ Ok (s ∷ [])
unfolding segments_checks
segments_checked s aligned =
    let first : nat_le s.alignment 16 ≡ true = le-leb _ _ aligned in
    let least : nat_le 0 s.offset ≡ true = le-leb 0 s.offset (omega arith) in
    rw (first, least) refl

-- the parts of a footer that is written
abbrev flat_footer : Dtype → ℕ → ℕ → SegmentSpec → List (List ℕ) → FooterContent
flat_footer d rows number s ids = record { version = V1; layout = node Flat d rows (number ∷ []) no_layouts; segments = s ∷ []; statistics = None; metadata = []; array_ids = ids }

is_flat_footer : (size : ℕ) (f : FooterContent) (h : IsWritable size f) → flat_footer h.flat.rows_dtype h.flat.rows h.flat.segment h.segment f.array_ids ≡ f
is_flat_footer size f h = λ i. record {
  version = sym h.flat.version i;
  layout = sym h.flat.layout i;
  segments = sym h.only i;
  statistics = sym h.flat.statistics i;
  metadata = sym h.flat.metadata i;
  array_ids = f.array_ids;
}

content_checked : (size : ℕ) (f : FooterContent) (h : IsWritable size f) → length (footer_bytes f) ≤ 65535
    → content_checks V1 h.flat.rows_dtype None [] (footer_bytes f) (layout_bytes f) ≡ Ok f
unfolding content_checks
content_checked size f h short =
    let d = h.flat.rows_dtype in
    let s = h.segment in
    let bytes : footer_bytes f ≡ ids_bytes f.array_ids (s ∷ []) = ap (ids_bytes f.array_ids) h.only in
    let row = footer_back f.array_ids s h.few h.texts h.start h.short (subst (λ b. length b ≤ 65535) bytes short) in
    let layout : layout_bytes f ≡ root_bytes (flat_pieces h.flat.rows h.flat.segment) = ap (λ t. root_bytes (tree_pieces (flat_id ∷ []) t)) h.flat.layout in
    let laid = layout_checked d h.flat.rows h.flat.segment h.rows h.number in
    rw (bytes, layout, row, laid, segments_checked s h.aligned) (ap (λ g. Ok g) (is_flat_footer size f h))

-- ---- where the tables lie

-- the tables in a file, and what stands behind them
record Lies (file : List ℕ) (at : ℕ) (f : FooterContent) : Type 0 where
  dtype : IsAt file at (dtype_bytes f)
  layout : IsAt file (at + length (dtype_bytes f)) (layout_bytes f)
  footer : IsAt file (at + length (dtype_bytes f) + length (layout_bytes f)) (footer_bytes f)

lies : (front : List ℕ) (f : FooterContent) → Lies (front ++ serialized (length front) f) (length front) f
lies front f =
    let at = length front in
    let d = dtype_bytes f in
    let l = layout_bytes f in
    let t = footer_bytes f in
    let p = postscript_bytes at f in
    let m = end_marker (length p) in
    let file = front ++ serialized at f in
    let whole : IsAt file at (serialized at f) = record { front = front; rest = []; parts = ap (λ z. front ++ z) (sym (append-nil (serialized at f))); place = refl } in
    let tables = at_left file at (d ++ l ++ t) p (at_left file at (d ++ l ++ t ++ p) m whole) in
    let head = at_left file at (d ++ l) t tables in
    record {
      dtype = at_left file at d l head;
      layout = at_right file at d l head;
      footer = at_move file (at + length (d ++ l)) (at + length d + length l) t (omega (arith, length-append d l)) (at_right file at (d ++ l) t tables);
    }

dtype_is : (size : ℕ) (f : FooterContent) (h : IsWritable size f) → length (dtype_bytes f) ≤ 65535 → dtype_checks (dtype_bytes f) ≡ Ok h.flat.rows_dtype
dtype_is size f h short =
    let same : dtype_bytes f ≡ root_bytes (pieces_of h.flat.rows_dtype) = ap (λ t. root_bytes (pieces_of (dtype_of t))) h.flat.layout in
    ap dtype_checks same ∙ dtype_checked h.flat.rows_dtype h.names (omega (arith, subst (λ b. length b ≤ 65535) same short)) h.shallow h.visits

tables_checked : (file : List ℕ) (at size : ℕ) (f : FooterContent) (h : IsWritable size f) → Lies file at f → length (footer_bytes f) ≤ 65535 → length (dtype_bytes f) ≤ 65535
    → table_checks (table_bytes file) None V1 (postscript_with (places at (dtype_bytes f) (layout_bytes f) (footer_bytes f))) ≡ Ok f
unfolding table_checks
tables_checked file at size f h lie short short_dtype =
    let d = dtype_bytes f in
    let l = layout_bytes f in
    let dtype = table_back file at d lie.dtype in
    let layout = table_back file (at + length d) l lie.layout in
    let footer = table_back file (at + length d + length l) (footer_bytes f) lie.footer in
    rw (dtype, dtype_is size f h short_dtype, footer, layout) (content_checked size f h short)

-- ---- the file

-- how long the parts are
record Lengths (front : List ℕ) (f : FooterContent) : Type 0 where
  file : length (front ++ serialized (length front) f) ≡ length front + length (serialized (length front) f)
  parts : length (serialized (length front) f) ≡ length (dtype_bytes f) + length (layout_bytes f) + length (footer_bytes f) + 121

lengths : (front : List ℕ) (f : FooterContent) → Lengths front f
lengths front f =
    let at = length front in
    let d = dtype_bytes f in
    let l = layout_bytes f in
    let t = footer_bytes f in
    let p = postscript_bytes at f in
    let m = end_marker (length p) in
    record {
      file = length-append front (serialized at f);
      parts = omega (arith, length-append (d ++ l ++ t ++ p) m, length-append (d ++ l ++ t) p, length-append (d ++ l) t, length-append d l, length-postscript (places at d l t));
    }

end_checked : (front : List ℕ) (f : FooterContent) → end_checks (front ++ serialized (length front) f) ≡ Ok (V1, postscript_bytes (length front) f)
end_checked front f =
    let at = length front in
    let s = dtype_bytes f ++ layout_bytes f ++ footer_bytes f in
    let p = postscript_bytes at f in
    let m = end_marker (length p) in
    let parts : front ++ serialized at f ≡ (front ++ s) ++ (p ++ m) = ap (λ z. front ++ z) (append_assoc s p m) ∙ sym (append_assoc front s (p ++ m)) in
    ap end_checks parts ∙ end_back (front ++ s) p (length-postscript (places at (dtype_bytes f) (layout_bytes f) (footer_bytes f)))

tail_checked : (front : List ℕ) (f : FooterContent) → length (serialized (length front) f) ≤ 65535 → length (front ++ serialized (length front) f) < 2 ^ 64
    → tail_checks None (front ++ serialized (length front) f) ≡ Ok (V1, postscript_with (places (length front) (dtype_bytes f) (layout_bytes f) (footer_bytes f)))
unfolding tail_checks
tail_checked front f short fits =
    let n = lengths front f in
    let places_are = postscript_checked (length front) (dtype_bytes f) (layout_bytes f) (footer_bytes f) (omega (arith, n.parts, short)) (omega (arith, n.parts, short)) (omega (arith, n.parts, short)) (omega (arith, n.parts, n.file, fits)) in
    rw (end_checked front f, places_are) refl

extent_passed : (size : ℕ) (f : FooterContent) → IsWritable size f → extent_check size f ≡ Ok f
extent_passed size f h =
    let inside : nat_le (h.segment.offset + h.segment.length) size ≡ true = le-leb _ _ h.inside in
    rw (h.only, h.flat.metadata, inside) refl

pub read_back : (front : List ℕ) (f : FooterContent) → length (serialized (length front) f) ≤ 65535 → length (front ++ serialized (length front) f) < 2 ^ 64
    → IsWritable (length (front ++ serialized (length front) f)) f → vx_grammar (front ++ serialized (length front) f) None ≡ Ok f
unfolding vx_grammar footer_of
read_back front f short fits h =
    let at = length front in
    let file = front ++ serialized at f in
    let n = lengths front f in
    let tables = tables_checked file at (length file) f h (lies front f) (omega (arith, n.parts, short)) (omega (arith, n.parts, short)) in
    rw (tail_checked front f short fits, tables) (extent_passed (length file) f h)
