-- Scans of files that are read, and of files that are skipped.
use Rattle.std.proofs.Common.{◌≡◌, ℕ, Bool, true, false, List, [], Option, Some, None, refl, ap, sym, ◌∙◌, subst}
use Rattle.std.specs.Prelude.{filter}
use Rattle.std.proofs.lemmas.List.Elements.{recursion_from_All}
use Rattle.vx_data.specs.Dtype.{Dtype, bool, int, text, struct}
use Rattle.vx_data.specs.Layout.{dtype_of as type_of_tree, rows_of as tree_rows}
use Rattle.vx_footer.specs.FileStats.{FileStats}
use Rattle.vx_footer.specs.Footers.{FooterContent}
use Rattle.vx_prune.specs.Never.{never}
use Rattle.vx_prune.proofs.RowsLemmas.{pruned_rows}
use Rattle.vx_rows.specs.ReadRows.{no_rows}
use Rattle.vx_rows.specs.Rows.{Rows, rows_len, dtype_of, HasRows, IsColumn}
use Rattle.vx_rows.specs.Truth.{satisfies}
use Rattle.vx_rows.proofs.ColumnLaws.{column_rows, rows_are}
use Rattle.vx_source.specs.Sources.{SourceState}
use Rattle.vx_file.specs.Kept.{all_rows}
use Rattle.vx_file.specs.Scans.{IsRead, IsOf}
use Rattle.vx_file.specs.Scanned.{Filter, never_met, is_skipped, matching, TellsOf, IsScanned}
use Rattle.vx_file.proofs.KeepingLemmas.{kept_satisfying, none_satisfies}

some-same : {A : Type 0} → (x y : A) → Some x ≡ Some y → x ≡ y
some-same x y e = cc

pub true_false : (b : Bool) → b ≡ false → b ≡ true → ⊥
true_false b e f = cc

-- ---- files that are read

matching-rows : (p : Filter) (n : ℕ) (all c : Rows) → HasRows n all → c ≡ matching (Some p) all → all_rows c ≡ filter (satisfies p.0 p.1) (all_rows all)
matching-rows p n all c h e = ap all_rows e ∙ kept_satisfying (satisfies p.0 p.1) n all h

pub scanned_read : (serves : List ℕ → Type 0) (source : SourceState) (f : FooterContent) (b : Option Filter) (all c : Rows) → is_skipped b f ≡ false → IsRead serves source f.array_ids f.layout all → IsOf f.layout all
    → c ≡ matching b all → dtype_of c ≡ dtype_of all → IsColumn (rows_len c) c → IsScanned serves source f b c
scanned_read serves source f b all c kept read of same typed sound = record {
  skipped = λ pruned. absurd (true_false (is_skipped b f) kept pruned);
  read = λ kept file s. (all, read file s, same);
  matches = λ p is file rows s reads tells.
      let one = some-same all rows (sym (read file s) ∙ reads) in
      subst (λ (x : Rows). all_rows c ≡ filter (satisfies p.0 p.1) (all_rows x)) one
      (matching-rows p (tree_rows f.layout) all c (column_rows (tree_rows f.layout) all of.1) (same ∙ ap (λ o. matching o all) is));
  typed = typed ∙ of.0;
  sound = sound;
}

-- ---- files that are skipped

never-in : (p : Filter) (d : Dtype) (o : Option FileStats) (n : ℕ) → never_met p d o n ≡ true → (stats : FileStats) × (o ≡ Some stats) × (never p.0 p.1 stats.sets n ≡ true)
never-in p (struct fs nullable) (Some stats) n e = (stats, refl, e)
never-in p (struct fs nullable) None n e = cc
never-in p (bool nullable) o n e = cc
never-in p (int q nullable) o n e = cc
never-in p (text nullable) o n e = cc

none-left : (d : Dtype) → all_rows (no_rows d) ≡ []
none-left (bool nullable) = refl
none-left (int p nullable) = refl
none-left (text nullable) = refl
none-left (struct fs nullable) = refl

none-match : (p : Filter) (f : FooterContent) (rows : Rows) → is_skipped (Some p) f ≡ true → TellsOf f rows → filter (satisfies p.0 p.1) (all_rows rows) ≡ []
none-match p f rows e tells =
    let never = never-in p (type_of_tree f.layout) f.statistics (tree_rows f.layout) e in
    none_satisfies (satisfies p.0 p.1) (all_rows rows)
    (recursion_from_All (λ r. satisfies p.0 p.1 r ≡ false) (all_rows rows)
    (pruned_rows p.0 p.1 never.0.sets (tree_rows f.layout) never.2 (all_rows rows) (tells.statistics never.0 never.1) tells.count))

pub scanned_skipped : (serves : List ℕ → Type 0) (source : SourceState) (f : FooterContent) (b : Option Filter) (c : Rows) → is_skipped b f ≡ true → c ≡ no_rows (type_of_tree f.layout)
    → dtype_of c ≡ type_of_tree f.layout → IsColumn (rows_len c) c → IsScanned serves source f b c
scanned_skipped serves source f b c pruned same typed sound = record {
  skipped = λ pruned. same;
  read = λ kept. absurd (true_false (is_skipped b f) kept pruned);
  matches = λ p is file rows s reads tells. ap all_rows same ∙ none-left (type_of_tree f.layout) ∙ sym (none-match p f rows (ap (λ o. is_skipped o f) (sym is) ∙ pruned) tells);
  typed = typed;
  sound = sound;
}

-- ---- columns

pub even_is : (n : ℕ) (c : Rows) → IsColumn n c → IsColumn (rows_len c) c
even_is n c h = subst (λ k. IsColumn k c) (sym (rows_are n c (column_rows n c h))) h
