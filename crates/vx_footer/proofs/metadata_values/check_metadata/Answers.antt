use Rattle.std.proofs.Common.{rules, ◌≡◌, true, false, length, sym, subst}
use Rattle.std.specs.Prelude.{◌==◌}
use Rattle.vx_base.specs.Checks.{Gives}
use Rattle.vx_footer.specs.PostscriptWritten.{FailsToWrite}
use Rattle.vx_footer.specs.Serializing.{metadata_checks}
use Rattle.vx_footer.proofs.ValueLemmas.{no_keys, some_keys}
use Rattle.vx_footer.proofs.metadata_values.check_metadata.Goals as goal

pub returns-then-is_empty : goal.returns-then-is_empty
returns-then-is_empty c =
    let empty : (length c.args.values.now == 0) ≡ true = search rules in
    subst (λ ks. Gives FailsToWrite (λ x. x) c.check_own.result (metadata_checks c.args.version ks)) (sym (no_keys c.args.own.now c.args.values.now empty)) c.check_own.ensures

pub returns : goal.returns
returns c =
    let some : (length c.args.values.now == 0) ≡ false = search rules in
    subst (λ ks. Gives FailsToWrite (λ x. x) c.check_new.result (metadata_checks c.args.version ks)) (sym (some_keys c.args.own.now c.args.values.now some)) c.check_new.ensures
