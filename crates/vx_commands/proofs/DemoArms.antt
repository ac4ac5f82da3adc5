-- The file of some values: its column, and that it is served.
use Rattle.std.proofs.Common.{◌≡◌, ℕ, true, false, List, [], ◌∷◌, map, Some, Err, refl, sym, subst, ◌∙◌}
use Rattle.std.specs.Prelude.{ℤ}
use Rattle.vx_rows.specs.Columns.{may_hold}
use Rattle.vx_file.specs.declared.step.Step.{Step}
use Rattle.vx_file.specs.declared.served.Served.{Served}
use Rattle.vx_file.specs.Memory.{ServedWhole}
use Rattle.vx_commands.specs.Demo.{demo_dtype, demo_rows, demo_options, demo_bytes, demo_refusal, Demonstrates, DemoCause}
use Rattle.vx_commands.specs.MadeFiles.{made_bytes, file_refusal, IsMade, MakesFile}
use Rattle.vx_commands.specs.declared.failure.Failure.{Failure}
use Rattle.vx_commands.specs.declared.failure.Failure.TheVariants as failures
use Rattle.vx_commands.specs.declared.made_file.MadeFile.{MadeFile}
use Rattle.vx_commands.proofs.MadeArms.{has-rows}

-- ---- the column

-- no value is missing
pub all_there : (values : List ℤ) → may_hold false (map (λ (v : ℤ). Some v) values) ≡ true
all_there [] = refl
all_there (v ∷ vs) = all_there vs

-- ---- serving

bytes-are : (values : List ℤ) → demo_bytes values ≡ made_bytes demo_options demo_dtype (demo_rows values)
unfolding demo_bytes
bytes-are values = refl

refusal-is : (values : List ℤ) → demo_refusal values ≡ file_refusal demo_options demo_dtype (demo_rows values)
unfolding demo_refusal
refusal-is values = refl

pub demonstrated : (values : List ℤ) (script : List Step) (made : MadeFile) (served : Served) → IsMade demo_options demo_dtype (demo_rows values) made → ServedWhole made.bytes.items script served → Demonstrates values script served
demonstrated values script made served h s =
    let is : made.bytes.items ≡ demo_bytes values = h.bytes ∙ sym (bytes-are values) in
    let whole : ServedWhole (demo_bytes values) script served = subst (λ (b : List ℕ). ServedWhole b script served) is s in
    record {
      whole = refusal-is values ∙ h.checked;
      holds = record {
        grammar = whole.footer;
        rows = has-rows demo_options demo_dtype (demo_rows values) made refl h (demo_bytes values) served.footer.content (bytes-are values) s.footer;
      };
      serves = whole;
    }

-- what was not made is not served
pub not-demonstrated : (values : List ℤ) (script : List Step) (failure : Failure) → MakesFile demo_options demo_dtype (demo_rows values) (Err failure) → DemoCause values script (Err failure)
not-demonstrated values script failures.Usage h = absurd h
not-demonstrated values script (failures.Line line) h = absurd h
not-demonstrated values script (failures.Refused refusal) h = absurd h
not-demonstrated values script failures.MissingSegment h = absurd h
not-demonstrated values script (failures.Unbound error) h = absurd h
not-demonstrated values script (failures.Undecoded error) h = absurd h
not-demonstrated values script (failures.Unwritten error) h = refusal-is values ∙ h
not-demonstrated values script (failures.Read fault) h = absurd h
not-demonstrated values script failures.Input h = absurd h
not-demonstrated values script failures.Output h = absurd h
not-demonstrated values script (failures.Open name) h = absurd h
not-demonstrated values script failures.InputTooLong h = absurd h
not-demonstrated values script failures.OutOfMemory h = tt
