-- A file of rows that is written to memory, from what the writer answers and leaves.
use Rattle.std.proofs.Common.{◌≡◌, ℕ, ◌+◌, false, List, [], ◌∷◌, ◌++◌, Option, Some, None, Result, Ok, Err, sym, ap, subst, ◌∙◌, arith}
use Rattle.std.specs.Prelude.{Vec}
use Rattle.std.specs.Global.{Global}
use Rattle.std.specs.Option.{option_map}
use Rattle.vx_base.specs.Streams.{SinkState}
use Rattle.vx_data.specs.Dtype.{Dtype}
use Rattle.vx_footer.specs.Footers.{FooterContent, segment_table}
use Rattle.vx_footer.specs.Opening.{vx_grammar}
use Rattle.vx_footer.specs.ReadAgain.{content_read}
use Rattle.vx_footer.specs.declared.error.OpenError.{OpenError}
use Rattle.vx_footer.specs.declared.write_error.WriteError.{WriteError}
use Rattle.vx_footer.specs.declared.write_error.WriteError.TheVariants as write_error
use Rattle.vx_rows.specs.LayoutRows.{rows_of}
use Rattle.vx_rows.specs.Rows.{Rows, rows_len}
use Rattle.vx_write.specs.OpensAgain.{OpensAgain, slices}
use Rattle.vx_write.specs.Options.{Options}
use Rattle.vx_write.specs.RowsWritten.{RowsAnswer, RowsLeave}
use Rattle.vx_write.specs.Written.{rows_after}
use Rattle.vx_write.specs.declared.summary.WriteSummary.{WriteSummary}
use Rattle.vx_commands.specs.MadeFiles.{made_bytes, file_refusal, IsMade, MakesFile}
use Rattle.vx_commands.specs.RowsFiles.{file_checks}
use Rattle.vx_generate.specs.Tables.{IsTable}
use Rattle.vx_commands.specs.declared.failure.Failure.{Failure}
use Rattle.vx_commands.specs.declared.made_file.MadeFile.{MadeFile}
use Rattle.vx_commands.proofs.FileArms.{file-checked, whole-file, refused-file}
use Rattle.vx_commands.proofs.MadeSegments.{ended_there}

-- what a sink that took nothing before has, once it took some bytes
all-taken : (bytes gained : List ℕ) (before now : Option (List ℕ)) → before ≡ Some [] → now ≡ Some gained → now ≡ option_map (λ g. g ++ bytes) before → gained ≡ bytes
all-taken bytes gained before now none some took = inside (sym some ∙ took ∙ ap (option_map (λ g. g ++ bytes)) none)
  where
    inside : Some gained ≡ Some bytes → gained ≡ bytes
    inside h = cc

pub is-made : (o : Options) (d : Dtype) (c : Rows) (before now : SinkState) (gained : List ℕ) (bytes : Vec ℕ Global) (s : WriteSummary) → IsTable d c → before.gained ≡ Some [] → now.gained ≡ Some gained → bytes.items ≡ gained
    → RowsAnswer o d (c ∷ []) (Ok s) → RowsLeave o d (c ∷ []) before now (Ok s) → OpensAgain o d (c ∷ []) (content_read s.footer.content) → IsMade o d c (record { bytes = bytes; summary = s })
is-made o d c before now gained bytes s t none some is answer leaves opens = record {
  bytes = is ∙ all-taken (made_bytes o d c) gained before.gained now.gained none some leaves.took;
  checked = whole-file (file_checks o d c) (file-checked o d c (Ok s) t answer);
  opens = opens;
  there = ended_there o d (c ∷ []) before.gained now s leaves;
  size = leaves.size;
  rows = leaves.rows ∙ from-zero (rows_len c);
}
  where
    from-zero : (n : ℕ) → 0 + n ≡ n
    from-zero n = omega arith

-- a file that was not made, though the sink never fails and there was memory, is refused by a check
pub not-made : (o : Options) (d : Dtype) (c : Rows) (e : WriteError) → IsTable d c → RowsAnswer {A = WriteSummary} o d (c ∷ []) (Err e) → (e ≡ write_error.WriteFault → ⊥) → (e ≡ write_error.OutOfMemory → ⊥) → file_refusal o d c ≡ Some e
not-made o d c e t h a b = refused-file e (file_checks o d c) (file-checked {A = WriteSummary} o d c (Err e) t h a b)

-- what is so of options, a type and rows is so of those that are the same
pub makes-same : (o p : Options) (d e : Dtype) (c r : Rows) (result : Result MadeFile Failure) → o ≡ p → d ≡ e → c ≡ r → MakesFile o d c result → MakesFile p e r result
makes-same o p d e c r result a b k h = subst (λ x. MakesFile p e x result) k (subst (λ x. MakesFile p x c result) b (subst (λ x. MakesFile x d c result) a h))

-- ---- what was made opens again

module _ (o : Options) (d : Dtype) (c : Rows) (made : MadeFile) (plain : o.excludes_dtype ≡ false) (h : IsMade o d c made) where
  grammar : vx_grammar made.bytes.items None ≡ Ok (content_read made.summary.footer.content)
  grammar = ap (λ (b : List ℕ). vx_grammar b None) h.bytes ∙ h.opens.alone plain

  pub opens-again : (e : OpenError) → vx_grammar made.bytes.items None ≡ Err e → ⊥
  opens-again e k = clash (vx_grammar made.bytes.items None) _ e grammar k
    where
      clash : (x : Result FooterContent OpenError) (f : FooterContent) (e : OpenError) → x ≡ Ok f → x ≡ Err e → ⊥
      clash x f e h k = cc

  -- and has the rows, whoever opens it
  pub has-rows : (bytes : List ℕ) (f : FooterContent) → bytes ≡ made_bytes o d c → vx_grammar made.bytes.items None ≡ Ok f → rows_of (slices bytes (segment_table f)) f.array_ids f.layout ≡ Some (rows_after d (c ∷ []))
  has-rows bytes f is k =
      subst (λ b. rows_of (slices b (segment_table f)) f.array_ids f.layout ≡ Some (rows_after d (c ∷ []))) (sym is)
      (subst (λ g. rows_of (slices (made_bytes o d c) (segment_table g)) g.array_ids g.layout ≡ Some (rows_after d (c ∷ []))) (same (vx_grammar made.bytes.items None) _ f grammar k) h.opens.rows)
    where
      same : (x : Result FooterContent OpenError) (f g : FooterContent) → x ≡ Ok f → x ≡ Ok g → f ≡ g
      same x f g h k = cc
