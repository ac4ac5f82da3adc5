-- Leaves that hold rows back.
use Rattle.std.proofs.Common.{◌≡◌, ℕ, ◌-◌, ◌/◌, ◌^◌, ◌≤◌, min, List, [], ◌∷◌, length, take, Option, Some, None, refl, ap, sym, ◌∙◌, subst, arith}
use Rattle.std.specs.Prelude.{slice_range, unwrap_or}
use Rattle.std.proofs.lemmas.List.{length-take-le}
use Rattle.std.proofs.lemmas.List.Elements.{All-nil, All-cons}
use Rattle.std.proofs.Math.Nat.{div-eq_of_lt}
use Rattle.vx_data.specs.Dtype.{Dtype, bool, int, text, struct}
use Rattle.vx_rows.specs.Rows.{Rows, bools, ints, texts, structs, rows_len, dtype_of, IsColumn}
use Rattle.vx_rows.specs.Parts.{part, appended, plain_size}
use Rattle.vx_rows.specs.ReadRows.{no_rows}
use Rattle.vx_rows.proofs.ColumnLaws.{column_rows, rows_are, part_type, appended_type, all-kept}
use Rattle.vx_rows.proofs.KeepLemmas.{new_even}
use Rattle.vx_write.specs.declared.strategy.LeafStrategy.{LeafStrategy}
use Rattle.vx_write.specs.declared.strategy.LeafStrategy.TheVariants.{Blocks, Whole}
use Rattle.vx_write.specs.declared.pending.Pending.{Pending}
use Rattle.vx_write.specs.Strategies.{HasBlocks}
use Rattle.vx_write.specs.Cutting.{cut_blocks, full_chunks}
use Rattle.vx_write.specs.Leaves.{IsOfType, AllOfType}
use Rattle.vx_write.specs.Holding.{Holds, IsHeld, WillHold, KeepsLeaf, held_leaf, pending_leaf}
use Rattle.vx_write.specs.Feeding.{StillThere}
use Rattle.vx_write.proofs.CutLemmas.{cut_none}
use Rattle.vx_write.proofs.CutLaws.{full_hold}
use Rattle.vx_write.proofs.HoldingLemmas.{sound_part, sound_both}
use Rattle.vx_write.proofs.StillLemmas.{part_most}

-- ---- numbers of rows

front-long : {A : Type 0} → (xs : List A) (n : ℕ) → n ≤ length xs → length (slice_range xs 0 n) ≡ n
front-long xs n h = let e : n - 0 ≡ n = omega arith in ap (λ k. length (take k xs)) e ∙ length-take-le n xs h

pub part_count : (c : Rows) (n : ℕ) → n ≤ rows_len c → rows_len (part 0 n c) ≡ n
part_count (bools c) n h = front-long c.rows n h
part_count (ints c) n h = front-long c.rows n h
part_count (texts c) n h = front-long c.rows n h
part_count (structs c cs) n h = front-long c.present n h

-- ---- what is held

-- what was held is held, where more stands behind it
pub held_still : (s : LeafStrategy) (c c' : Rows) (count gathered : ℕ) → IsHeld s c count gathered → StillThere (part 0 count c) c' → IsHeld s c' count gathered × (part 0 count c' ≡ part 0 count c)
held_still s c c' count gathered h still =
    let size = part_count c count h.inside in
    let same : part 0 count c' ≡ part 0 count c = ap (λ n. part 0 n c') (sym size) ∙ still in
    let most = part_most c' count in
    let long = ap rows_len same in (record { inside = omega (arith, most, long, size); held = subst (λ (r : Rows). Holds s r gathered) (sym same) h.held }, same)

-- ---- a leaf without rows

none_long : (d : Dtype) → rows_len (no_rows d) ≡ 0
none_long (bool nullable) = refl
none_long (int ptype nullable) = refl
none_long (text nullable) = refl
none_long (struct fs nullable) = refl

none_kept : (d : Dtype) (n : ℕ) → n ≡ 0 → part 0 n (no_rows d) ≡ no_rows d
none_kept d n e =
    let h = column_rows (rows_len (no_rows d)) (no_rows d) (new_even d (no_rows d) refl) in
    ap (λ k. part 0 k (no_rows d)) (e ∙ sym (none_long d)) ∙ all-kept (no_rows d) (rows_len (no_rows d)) h

pub new_held : (s : LeafStrategy) (d : Dtype) (c : Rows) (size : ℕ) → HasBlocks s → c ≡ no_rows d → size ≡ min (plain_size c) (2 ^ 64 - 1) → KeepsLeaf s c 0 0 size None
new_held s d c size h e f = record {
  held = record { inside = omega arith; held = subst (λ (r : Rows). Holds s r 0) (sym none) (held s h) };
  size_is = f ∙ ap (λ (r : Rows). min (plain_size r) (2 ^ 64 - 1)) (e ∙ sym none);
  will_hold = tt;
}
  where
    none : part 0 0 c ≡ no_rows d
    none = ap (part 0 0) e ∙ none_kept d 0 refl

    held : (t : LeafStrategy) → HasBlocks t → Holds t (no_rows d) 0
    held Whole k = record { blocks = k; sound = new_even d (no_rows d) refl; none_full = refl }
    held (Blocks rows target) k =
        let many : rows_len (no_rows d) / rows ≡ 0 = ap (λ n. n / rows) (none_long d) ∙ div-eq_of_lt k in record {
          blocks = k;
          sound = new_even d (no_rows d) refl;
          none_full = ap (cut_blocks rows (unwrap_or target 0) (no_rows d) 0 0 0) many ∙ cut_none rows (unwrap_or target 0) (no_rows d) 0 0 0;
        }

pub new_leaf : (s : LeafStrategy) (d : Dtype) (c : Rows) → c ≡ no_rows d → held_leaf s c 0 ≡ record { strategy = s; kept = no_rows d }
new_leaf s d c e = ap (λ (x : Rows). record { strategy = s; kept = x }) (ap (part 0 0) e ∙ none_kept d 0 refl)

-- ---- a push is settled

pub settled : (s : LeafStrategy) (c : Rows) (gathered size : ℕ) → Holds s c gathered → size ≡ min (plain_size c) (2 ^ 64 - 1) → KeepsLeaf s c (rows_len c) gathered size None
settled s c gathered size h e =
    let all : part 0 (rows_len c) c ≡ c = all-kept c (rows_len c) (column_rows (rows_len c) c h.sound) in record {
      held = record { inside = omega arith; held = subst (λ (r : Rows). Holds s r gathered) (sym all) h };
      size_is = e ∙ ap (λ (r : Rows). min (plain_size r) (2 ^ 64 - 1)) (sym all);
      will_hold = tt;
    }

-- ---- chunks of a leaf

pub full_typed : (s : LeafStrategy) (held c : Rows) → HasBlocks s → IsColumn (rows_len held) held → IsColumn (rows_len c) c → dtype_of c ≡ dtype_of held → AllOfType (dtype_of held) (full_chunks s (appended held c))
full_typed s held c h k l t =
    let sound = sound_both held c t k l in
    full_hold (IsOfType (dtype_of held)) s (appended held c) h
    (λ a b o m. record { sound = sound_part (appended held c) a b o m sound; typed = part_type a b (appended held c) ∙ appended_type held c })

pub settled_by : (s : LeafStrategy) (c c' : Rows) (p : Pending) (pending pending' : Option Pending) (count size : ℕ) → WillHold s c pending → pending ≡ Some p → c' ≡ unwrap_or p.rows c
    → count ≡ rows_len c' → size ≡ min (plain_size c') (2 ^ 64 - 1) → pending' ≡ None → KeepsLeaf s c' count p.gathered size pending'
settled_by s c c' p pending pending' count size w is rows_are long size_is none =
    let will : Holds s (unwrap_or p.rows c) p.gathered = subst (WillHold s c) is w in
    let here : Holds s c' p.gathered = subst (λ (r : Rows). Holds s r p.gathered) (sym rows_are) will in
    subst (λ (n : ℕ). KeepsLeaf s c' n p.gathered size pending') (sym long)
    (subst (λ (q : Option Pending). KeepsLeaf s c' (rows_len c') p.gathered size q) (sym none) (settled s c' p.gathered size here size_is))

pub settled_leaf : (s : LeafStrategy) (c c' : Rows) (p : Pending) (pending : Option Pending) (n count : ℕ) → WillHold s c pending → pending ≡ Some p → c' ≡ unwrap_or p.rows c → count ≡ rows_len c'
    → held_leaf s c' count ≡ pending_leaf s c n pending
settled_leaf s c c' p pending n count w is rows_are long =
    let will : Holds s (unwrap_or p.rows c) p.gathered = subst (WillHold s c) is w in
    let sound : IsColumn (rows_len c') c' = subst (λ (r : Rows). IsColumn (rows_len r) r) (sym rows_are) will.sound in
    let all : part 0 count c' ≡ unwrap_or p.rows c = ap (λ k. part 0 k c') long ∙ all-kept c' (rows_len c') (column_rows (rows_len c') c' sound) ∙ rows_are in
    ap (λ (r : Rows). record { strategy = s; kept = r }) all ∙ sym (ap (pending_leaf s c n) is)

-- ---- the last chunk

pub last_typed : (c d : Rows) (count : ℕ) → d ≡ part 0 count c → IsColumn (rows_len (part 0 count c)) (part 0 count c) → AllOfType (dtype_of c) (d ∷ [])
last_typed c d count e h =
    All-cons (IsOfType (dtype_of c)) d [] (record { sound = subst (λ (r : Rows). IsColumn (rows_len r) r) (sym e) h; typed = ap dtype_of e ∙ part_type 0 count c }) (All-nil (IsOfType (dtype_of c)))
