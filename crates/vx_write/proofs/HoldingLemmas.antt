-- Rows that are held, and rows that come.
use Rattle.std.proofs.Common.{◌≡◌, ℕ, ◌+◌, ◌-◌, ◌*◌, ◌/◌, ◌%◌, ◌<◌, ◌≤◌, List, [], ◌∷◌, ◌++◌, Option, Some, None, refl, ap, ap₂, sym, ◌∙◌, subst, arith}
use Rattle.std.specs.Prelude.{unwrap_or, Result, Ok, Err, IfOk}
use Rattle.std.proofs.Math.Nat.{div-eq_of_lt, mod-lt, mod-le}
use Rattle.vx_rows.specs.Rows.{Rows, rows_len, dtype_of, IsColumn}
use Rattle.vx_rows.specs.Parts.{part, appended, plain_size}
use Rattle.vx_rows.specs.declared.column.Column.{Column}
use Rattle.vx_rows.proofs.ColumnLaws.{column_rows, rows_are, part_rows, part_type, part_of_part, part_is_column, appended_rows, appended_is_column, all-kept}
use Rattle.vx_write.specs.declared.strategy.LeafStrategy.{LeafStrategy}
use Rattle.vx_write.specs.declared.strategy.LeafStrategy.TheVariants.{Blocks, Whole}
use Rattle.vx_write.specs.declared.gathering.Gathered.{Gathered}
use Rattle.vx_write.specs.declared.gathering.Gathered.TheVariants.{Full, Open}
use Rattle.vx_write.specs.Strategies.{HasBlocks}
use Rattle.vx_write.specs.declared.pending.Pending.{Pending}
use Rattle.vx_write.specs.declared.cutting.CutColumn.{CutColumn}
use Rattle.vx_write.specs.declared.feeding.Fed.{Fed}
use Rattle.vx_write.specs.Cutting.{Cut, cut_blocks, cut as cut_of, nothing_full, with_chunk, full_chunks, rest}
use Rattle.vx_write.specs.Gathering.{first_end}
use Rattle.vx_write.specs.Holding.{Holds}
use Rattle.vx_write.specs.Feeding.{cut_view, FeedsFirst, Feeds}
use Rattle.vx_write.specs.Chunks.{chunks_seen, last_seen}
use Rattle.vx_write.specs.CutParts.{parts_from}
use Rattle.vx_write.proofs.CutLemmas.{moved}
use Rattle.vx_write.proofs.BehindLemmas.{back_again, back_same, parts_meet, part_goes_on}
use Rattle.vx_write.proofs.CutLaws.{blocks_within, blocks_after, start_inside, rest_open, front_cut}
use Rattle.vx_write.proofs.HeldLemmas.{Meets, HeldCut, held_cut, shared_block}
use Rattle.vx_write.proofs.StillLemmas.{whole_part}

-- ---- numbers of rows

pub sound_part : (c : Rows) (from to : ℕ) → from ≤ to → to ≤ rows_len c → IsColumn (rows_len c) c → IsColumn (rows_len (part from to c)) (part from to c)
sound_part c from to o l h =
    let cut = part_is_column (rows_len c) from to c o l h in
    subst (λ (n : ℕ). IsColumn n (part from to c)) (sym (rows_are (to - from) (part from to c) (column_rows (to - from) (part from to c) cut))) cut

pub sound_both : (c d : Rows) → dtype_of d ≡ dtype_of c → IsColumn (rows_len c) c → IsColumn (rows_len d) d → IsColumn (rows_len (appended c d)) (appended c d)
sound_both c d t h k =
    let both = appended_is_column (rows_len c) (rows_len d) c d (sym t) h k in
    subst (λ (n : ℕ). IsColumn n (appended c d)) (sym (rows_are (rows_len c + rows_len d) (appended c d) (column_rows (rows_len c + rows_len d) (appended c d) both))) both

pub part_long : (c : Rows) (from to : ℕ) → from ≤ to → to ≤ rows_len c → IsColumn (rows_len c) c → rows_len (part from to c) ≡ to - from
part_long c from to o l h = rows_are (to - from) (part from to c) (part_rows (rows_len c) from to c o l (column_rows (rows_len c) c h))

pub both_long : (c d : Rows) → dtype_of d ≡ dtype_of c → IsColumn (rows_len c) c → IsColumn (rows_len d) d → rows_len (appended c d) ≡ rows_len c + rows_len d
both_long c d t h k =
    rows_are (rows_len c + rows_len d) (appended c d) (appended_rows (rows_len c) (rows_len d) c d (sym t) (column_rows (rows_len c) c h) (column_rows (rows_len d) d k))

-- the whole blocks of rows
pub whole_end : (rows n : ℕ) → 1 ≤ rows → rows * (n / rows) ≡ n - n % rows
whole_end rows n h = omega arith

-- where the last block is whole
pub missing_is : (rows n from : ℕ) → 1 ≤ rows → from ≡ rows - n % rows → n + from ≡ rows * (n / rows) + rows
missing_is rows n from h e =
    let ends = whole_end rows n h in
    let over = mod-lt n h in
    let low = mod-le n rows in
    omega (arith, e, ends, over, low)

-- ---- a column of which nothing was held

pub first_fed : (rows bytes : ℕ) (target : Option ℕ) (c : Rows) (first : Option Column) (cut : CutColumn) (others : List Rows) (held : Rows) → bytes ≡ unwrap_or target 0
    → cut_view c cut ≡ cut_blocks rows bytes c 0 0 0 (rows_len c / rows) → held ≡ part cut.start (rows_len c) c → others ≡ parts_from c 0 cut.ends.items
    → FeedsFirst rows target (last_seen first) c (record { chunks = record { first = first; others = Some others }; pending = record { rows = Some held; gathered = cut.gathered } })
first_fed rows bytes target c first cut others held b e is parts =
    let all : cut_view c cut ≡ cut_of (Blocks rows target) c = e ∙ ap (λ t. cut_blocks rows t c 0 0 0 (rows_len c / rows)) b in record {
      chunks = ap (λ xs. last_seen first ++ xs) (parts ∙ ap (λ (x : Cut). x.chunks) all);
      kept = ap Some (is ∙ ap (λ n. part n (rows_len c) c) (ap (λ (x : Cut). x.start) all));
      gathered = ap (λ (x : Cut). x.gathered) all;
    }

-- what a column leaves is held
pub rest_is_held : (rows : ℕ) (target : Option ℕ) (c : Rows) → 1 ≤ rows → IsColumn (rows_len c) c → Holds (Blocks rows target) (rest (Blocks rows target) c) (cut_of (Blocks rows target) c).gathered
rest_is_held rows target c h k =
    let start = start_inside (Blocks rows target) c h in record {
      blocks = h;
      sound = sound_part c (cut_of (Blocks rows target) c).start (rows_len c) start (omega arith) k;
      none_full = rest_open (Blocks rows target) (rows_len c) c h (column_rows (rows_len c) c k);
    }

-- the same of what was fed, whatever stood there
pub fed_is_held : (rows : ℕ) (target : Option ℕ) (before : List Rows) (c x : Rows) (fed : Fed) → 1 ≤ rows → IsColumn (rows_len c) c → FeedsFirst rows target before c fed
    → (unwrap_or fed.pending.rows x ≡ rest (Blocks rows target) c) × Holds (Blocks rows target) (unwrap_or fed.pending.rows x) fed.pending.gathered
fed_is_held rows target before c x fed h k f =
    let rows_is : unwrap_or fed.pending.rows x ≡ rest (Blocks rows target) c = ap (λ (o : Option Rows). unwrap_or o x) f.kept in (
      rows_is,
      subst (λ (g : ℕ). Holds (Blocks rows target) (unwrap_or fed.pending.rows x) g) (sym f.gathered)
          (subst (λ (r : Rows). Holds (Blocks rows target) r (cut_of (Blocks rows target) c).gathered) (sym rows_is) (rest_is_held rows target c h k)),
    )

none_behind : (c d : Rows) → rows_len c ≡ 0 → dtype_of d ≡ dtype_of c → IsColumn (rows_len c) c → IsColumn (rows_len d) d → appended c d ≡ d
none_behind c d e t h k =
    let p = column_rows (rows_len c) c h in
    let q = column_rows (rows_len d) d k in
    let both = appended_rows (rows_len c) (rows_len d) c d (sym t) p q in
    let size : rows_len c + rows_len d ≡ rows_len d = omega (arith, e) in
    sym (all-kept (appended c d) (rows_len c + rows_len d) both)
    ∙ ap (λ n. part n (rows_len c + rows_len d) (appended c d)) (sym e)
    ∙ back_again (rows_len c) (rows_len d) c d (sym t) p q

pub first_feeds : (rows : ℕ) (target : Option ℕ) (held c x : Rows) (fed : Fed) → 1 ≤ rows → rows_len held ≡ 0 → dtype_of c ≡ dtype_of held → IsColumn (rows_len held) held → IsColumn (rows_len c) c
    → FeedsFirst rows target [] c fed → Feeds (Blocks rows target) held c x fed
first_feeds rows target held c x fed h none t k l f =
    let same = none_behind held c none t k l in
    let held_then = fed_is_held rows target [] c x fed h l f in record {
      chunks = f.chunks ∙ ap (full_chunks (Blocks rows target)) (sym same);
      kept = held_then.0 ∙ ap (rest (Blocks rows target)) (sym same);
      holds = held_then.1;
    }

-- ---- rows behind those that are held

-- the first rows of a column come behind them
pub front_comes : (held c : Rows) (to : ℕ) → dtype_of c ≡ dtype_of held → IsColumn (rows_len held) held → IsColumn (rows_len c) c → to ≤ rows_len c
    → appended held (part 0 to c) ≡ part 0 (rows_len held + to) (appended held c)
front_comes held c to t h k l =
    let p = column_rows (rows_len held) held h in
    let q = column_rows (rows_len c) c k in
    ap (λ (r : Rows). appended r (part 0 to c)) (sym (all-kept held (rows_len held) p)) ∙ part_goes_on (rows_len held) (rows_len c) 0 to held c (sym t) p q (omega arith) l

-- and then others
pub more_comes : (held c held' : Rows) (from to : ℕ) → dtype_of c ≡ dtype_of held → IsColumn (rows_len held) held → IsColumn (rows_len c) c → from ≤ to → to ≤ rows_len c
    → held' ≡ appended held (part 0 from c) → appended held' (part from to c) ≡ part 0 (rows_len held + to) (appended held c)
more_comes held c held' from to t h k o l is =
    let p = column_rows (rows_len held) held h in
    let q = column_rows (rows_len c) c k in
    let both = appended_rows (rows_len held) (rows_len c) held c (sym t) p q in
    ap₂ appended (is ∙ front_comes held c from t h k (omega (arith, o, l))) (sym ((back_same (rows_len held) (rows_len c) held c (sym t) p q).same from to o l))
    ∙ parts_meet (rows_len held + rows_len c) 0 (rows_len held + from) (rows_len held + to) (appended held c) both (omega arith) (omega (arith, o)) (omega (arith, l))

-- all of them
pub all_come : (held c held' held'' : Rows) (from : ℕ) → dtype_of c ≡ dtype_of held → IsColumn (rows_len held) held → IsColumn (rows_len c) c → from ≤ rows_len c
    → held' ≡ appended held (part 0 from c) → held'' ≡ appended held' (part from (rows_len c) c) → held'' ≡ appended held c
all_come held c held' held'' from t h k l is more =
    let both = appended_rows (rows_len held) (rows_len c) held c (sym t) (column_rows (rows_len held) held h) (column_rows (rows_len c) c k) in
    more ∙ more_comes held c held' from (rows_len c) t h k l (omega arith) is ∙ all-kept (appended held c) (rows_len held + rows_len c) both

-- as many whole blocks
pub same_blocks : (rows k y : ℕ) → 1 ≤ rows → rows * k ≤ y → y < rows * k + rows → y / rows ≡ k
same_blocks rows k y h l o =
    let none : (y - rows * k) / rows ≡ 0 = div-eq_of_lt (omega (arith, l, o)) in
    let all = blocks_after rows k y h l in
    omega (arith, none, all)

pub none_rest : (s : LeafStrategy) (c : Rows) (g : ℕ) → cut_of s c ≡ nothing_full 0 g → IsColumn (rows_len c) c → rest s c ≡ c
none_rest s c g e h = ap (λ (x : Cut). part x.start (rows_len c) c) e ∙ all-kept c (rows_len c) (column_rows (rows_len c) c h)

pub grown_feeds : (s : LeafStrategy) (sum : ℕ) (held c held' : Rows) (fed : Fed) → HasBlocks s → IsColumn (rows_len held) held → dtype_of c ≡ dtype_of held → IsColumn (rows_len c) c
    → held' ≡ appended held c → cut_of s (appended held c) ≡ nothing_full 0 sum → chunks_seen fed.chunks ≡ [] → fed.pending ≡ record { rows = None; gathered = sum } → Feeds s held c held' fed
grown_feeds s sum held c held' fed h k t l more none chunks is =
    let sound = sound_both held c t k l in
    let same : unwrap_or fed.pending.rows held' ≡ appended held c = ap (λ (x : Pending). unwrap_or x.rows held') is ∙ more in record {
      chunks = chunks ∙ sym (ap (λ (x : Cut). x.chunks) none);
      kept = same ∙ sym (none_rest s (appended held c) sum none sound);
      holds = subst (λ (n : ℕ). Holds s (unwrap_or fed.pending.rows held') n) (sym (ap (λ (x : Pending). x.gathered) is))
          (subst (λ (r : Rows). Holds s r sum) (sym same) (record { blocks = h; sound = sound; none_full = none }));
    }

-- rows that leave the last block as it is
pub short_feeds : (rows g : ℕ) (target : Option ℕ) (held c held' : Rows) (fed : Fed) → Holds (Blocks rows target) held g → dtype_of c ≡ dtype_of held → IsColumn (rows_len c) c
    → rows_len c < rows - rows_len held % rows → held' ≡ appended held (part 0 (rows_len c) c) → chunks_seen fed.chunks ≡ [] → fed.pending ≡ record { rows = None; gathered = g }
    → Feeds (Blocks rows target) held c held' fed
short_feeds rows g target held c held' fed m t k less more none is =
    let within = blocks_within rows (rows_len held) m.blocks in
    let ends = whole_end rows (rows_len held) m.blocks in
    let low = mod-le (rows_len held) rows in
    let size = both_long held c t m.sound k in
    let many : rows_len (appended held c) / rows ≡ rows_len held / rows = same_blocks rows (rows_len held / rows) (rows_len (appended held c)) m.blocks (omega (arith, within, size)) (omega (arith, ends, low, size, less)) in
    let cut_is : cut_of (Blocks rows target) (appended held c) ≡ nothing_full 0 g =
    ap (cut_blocks rows (unwrap_or target 0) (appended held c) 0 0 0) many
    ∙ front_cut rows (unwrap_or target 0) (rows_len held) held c (column_rows (rows_len held) held m.sound) (rows_len held / rows) within ∙ m.none_full in
    grown_feeds (Blocks rows target) g held c held' fed m.blocks m.sound t k (more ∙ ap (appended held) (whole_part c (rows_len c) refl k)) cut_is none is

-- rows that make the last block whole, and fill no chunk
pub on_feeds : (rows g sum from : ℕ) (target : Option ℕ) (held c held' held'' : Rows) (fed : Fed) → Holds (Blocks rows target) held g → dtype_of c ≡ dtype_of held → IsColumn (rows_len c) c
    → from ≤ rows_len c → held' ≡ appended held (part 0 from c) → held'' ≡ appended held' (part from (rows_len c) c) → cut_of (Blocks rows target) (appended held c) ≡ nothing_full 0 sum
    → chunks_seen fed.chunks ≡ [] → fed.pending ≡ record { rows = None; gathered = sum } → Feeds (Blocks rows target) held c held'' fed
on_feeds rows g sum from target held c held' held'' fed m t k inside whole more none chunks is =
    grown_feeds (Blocks rows target) sum held c held'' fed m.blocks m.sound t k (all_come held c held' held'' from t m.sound k inside whole more) none chunks is

-- rows that fill a chunk
pub full_feeds : (rows g from end : ℕ) (target : Option ℕ) (held c held' x : Rows) (fed : Fed) → Holds (Blocks rows target) held g → dtype_of c ≡ dtype_of held → IsColumn (rows_len c) c
    → from ≤ end → end ≤ rows_len c → held' ≡ appended held (part 0 from c)
    → cut_of (Blocks rows target) (appended held c) ≡ with_chunk (part 0 (rows_len held + end) (appended held c)) (moved (rows_len held + end) (cut_of (Blocks rows target) (part end (rows_len c) c)))
    → FeedsFirst rows target (appended held' (part from end c) ∷ []) (part end (rows_len c) c) fed → Feeds (Blocks rows target) held c x fed
full_feeds rows g from end target held c held' x fed m t k ordered inside more is f =
    let p = column_rows (rows_len held) held m.sound in
    let q = column_rows (rows_len c) c k in
    let size = both_long held c t m.sound k in
    let sound = sound_part c end (rows_len c) inside (omega arith) k in
    let long = part_long c end (rows_len c) inside (omega arith) k in
    let first = more_comes held c held' from end t m.sound k ordered inside more in
    let start = start_inside (Blocks rows target) (part end (rows_len c) c) m.blocks in
    let then = fed_is_held rows target (appended held' (part from end c) ∷ []) (part end (rows_len c) c) x fed m.blocks sound f in
    let place : rows_len held + (end + (cut_of (Blocks rows target) (part end (rows_len c) c)).start) ≡ (cut_of (Blocks rows target) (appended held c)).start =
    omega arith ∙ sym (ap (λ (z : Cut). z.start) is) in
    let ends : end + rows_len (part end (rows_len c) c) ≡ rows_len c = omega (arith, long, inside) in
    let rest_is : rest (Blocks rows target) (part end (rows_len c) c) ≡ rest (Blocks rows target) (appended held c) =
    part_of_part end (rows_len c) (cut_of (Blocks rows target) (part end (rows_len c) c)).start (rows_len (part end (rows_len c) c)) c start (omega (arith, long))
    ∙ ap (λ n. part (end + (cut_of (Blocks rows target) (part end (rows_len c) c)).start) n c) ends
    ∙ sym ((back_same (rows_len held) (rows_len c) held c (sym t) p q).same (end + (cut_of (Blocks rows target) (part end (rows_len c) c)).start) (rows_len c) (omega (arith, start, long, inside)) (omega arith))
    ∙ ap₂ (λ a b. part a b (appended held c)) place (sym size) in record {
      chunks = f.chunks ∙ ap (λ (r : Rows). r ∷ full_chunks (Blocks rows target) (part end (rows_len c) c)) first ∙ sym (ap (λ (z : Cut). z.chunks) is);
      kept = then.0 ∙ rest_is;
      holds = then.1;
    }

-- all rows
pub whole_feeds : (g : ℕ) (held c held' : Rows) (fed : Fed) → Holds Whole held g → dtype_of c ≡ dtype_of held → IsColumn (rows_len c) c → held' ≡ appended held (part 0 (rows_len c) c)
    → chunks_seen fed.chunks ≡ [] → fed.pending ≡ record { rows = None; gathered = 0 } → Feeds Whole held c held' fed
whole_feeds g held c held' fed m t k more none is = grown_feeds Whole 0 held c held' fed tt m.sound t k (more ∙ ap (appended held) (whole_part c (rows_len c) refl k)) refl none is

-- ---- what was gathered

-- the end of the first chunk, which is not before a row, or how much there is
abbrev pub Found : ℕ → Option ℕ → Rows → Rows → ℕ → Gathered → Type 0
Found rows target held c from (Full end) =
    (from ≤ end)
    × (end ≤ rows_len c)
    × (cut_of (Blocks rows target) (appended held c) ≡ with_chunk (part 0 (rows_len held + end) (appended held c)) (moved (rows_len held + end) (cut_of (Blocks rows target) (part end (rows_len c) c))))
Found rows target held c from (Open sum) = cut_of (Blocks rows target) (appended held c) ≡ nothing_full 0 sum

-- the last rows of those that are held are the block that is whole now
pub last_block : (rows from : ℕ) (held c held' : Rows) → 1 ≤ rows → dtype_of c ≡ dtype_of held → IsColumn (rows_len held) held → IsColumn (rows_len c) c → from ≡ rows - rows_len held % rows → from ≤ rows_len c
    → held' ≡ appended held (part 0 from c) → part (rows_len held' - rows) (rows_len held') held' ≡ shared_block rows held c from
last_block rows from held c held' h t k l missing enough more =
    let part_is = part_long c 0 from (omega arith) enough l in
    let sound = sound_part c 0 from (omega arith) enough l in
    let long = ap rows_len more ∙ both_long held (part 0 from c) (part_type 0 from c ∙ t) k sound in
    let ends = missing_is rows (rows_len held) from h missing in
    let within = blocks_within rows (rows_len held) h in
    let first : rows_len held' - rows ≡ rows * (rows_len held / rows) = omega (arith, long, part_is, ends) in
    let last : rows_len held' ≡ rows_len held + from = omega (arith, long, part_is) in
    ap₂ (λ a b. part a b held') first last ∙ ap (part (rows * (rows_len held / rows)) (rows_len held + from)) (more ∙ front_comes held c from t k l enough)
    ∙ part_of_part 0 (rows_len held + from) (rows * (rows_len held / rows)) (rows_len held + from) (appended held c) (omega (arith, within)) (omega arith)
    ∙ ap₂ (λ a b. part a b (appended held c)) (omega arith) (omega arith)

pub found_is : (rows g from bytes : ℕ) (target : Option ℕ) (held c held' : Rows) (found : Gathered) → Holds (Blocks rows target) held g → dtype_of c ≡ dtype_of held → IsColumn (rows_len c) c
    → from ≡ rows - rows_len held % rows → from ≤ rows_len c → held' ≡ appended held (part 0 from c) → bytes ≡ unwrap_or target 0
    → found ≡ first_end rows bytes c g (plain_size (part (rows_len held' - rows) (rows_len held') held')) from → Found rows target held c from found
found_is rows g from bytes target held c held' found m t k missing enough more bytes_are is =
    let size = both_long held c t m.sound k in
    let meets : Meets rows (unwrap_or target 0) held c g from = record {
      blocks = m.blocks;
      typed = sym t;
      held = column_rows (rows_len held) held m.sound;
      come = column_rows (rows_len c) c k;
      none_full = m.none_full;
      missing = missing_is rows (rows_len held) from m.blocks missing;
      enough = enough;
    } in
    let block_is = last_block rows from held c held' m.blocks t m.sound k missing enough more in
    let end_is : first_end rows (unwrap_or target 0) c g (plain_size (shared_block rows held c from)) from ≡ found =
    sym (is ∙ ap₂ (λ (n : ℕ) (b : Rows). first_end rows n c g (plain_size b) from) bytes_are block_is) in
    by size found (subst (HeldCut rows (unwrap_or target 0) held c from) end_is (held_cut rows (unwrap_or target 0) held c g from meets))
  where
    by : rows_len (appended held c) ≡ rows_len held + rows_len c → (f : Gathered) → HeldCut rows (unwrap_or target 0) held c from f → Found rows target held c from f
    by size (Full end) f =
        let high = f.high in (
          f.low,
          high,
          ap (λ n. cut_blocks rows (unwrap_or target 0) (appended held c) 0 0 0 (n / rows)) size ∙ f.chunk
              ∙ ap (λ n. with_chunk (part 0 (rows_len held + end) (appended held c)) (moved (rows_len held + end) (cut_blocks rows (unwrap_or target 0) (part end (rows_len c) c) 0 0 0 (n / rows))))
              (sym (part_long c end (rows_len c) high (omega arith) k)),
        )
    by size (Open sum) f = ap (λ n. cut_blocks rows (unwrap_or target 0) (appended held c) 0 0 0 (n / rows)) size ∙ f

-- ---- answers

pub ok_by : {A E : Type 0} → (r : Result A E) (P Q : A → Type 0) → ((x : A) → P x → Q x) → IfOk r P → IfOk r Q
ok_by (Ok x) P Q f h = f x h
ok_by (Err e) P Q f h = tt

pub ok_by_three : {A E : Type 0} → (r : Result A E) (P Q R S : A → Type 0) → ((x : A) → P x → Q x → R x → S x) → IfOk r P → IfOk r Q → IfOk r R → IfOk r S
ok_by_three (Ok x) P Q R S f h k l = f x h k l
ok_by_three (Err e) P Q R S f h k l = tt
