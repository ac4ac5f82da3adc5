use Rattle.std.proofs.Common.{rules, ◌≡◌, List, ℕ, None, Err, refl, sym, ap, subst, ◌∙◌}
use Rattle.vx_footer.specs.Opening.{vx_grammar}
use Rattle.vx_file.specs.Memory.{ServedWhole}
use Rattle.vx_commands.specs.Demo.{demo_dtype, demo_options, demo_rows}
use Rattle.vx_commands.proofs.MadeArms.{opens-again}
use Rattle.vx_commands.proofs.DemoArms.{demonstrated, not-demonstrated}
use Rattle.vx_commands.proofs.commands.demo.demonstrate.Goals as goal

pub unreachable-requires : goal.unreachable-requires
unreachable-requires c =
    let made = c.in_ok-made.made in
    let told = rw c.in-Err-Open.field-0-is at c.in-Err-Open.ensures in
    let bytes : c.in_ok-file.file.bytes ≡ made.bytes.items = search rules in
    let fails : vx_grammar made.bytes.items None ≡ Err c.in-Err-Open.field-0-0 = ap (λ (b : List ℕ). vx_grammar b None) (sym bytes) ∙ told in
    opens-again demo_options demo_dtype (demo_rows c.args.values.now) made refl c.in_ok-made.ensures c.in-Err-Open.field-0-0 fails

pub returns-in-Ok : goal.returns-in-Ok
returns-in-Ok c =
    let made = c.in_ok-made.made in
    let bytes : c.in_ok-file.file.bytes ≡ made.bytes.items = search rules in
    demonstrated c.args.values.now c.args.script.now made c.in-Ok.served c.in_ok-made.ensures
    (subst (λ (b : List ℕ). ServedWhole b c.args.script.now c.in-Ok.served) bytes c.in-Ok.ensures)

pub returns-in_err-made : goal.returns-in_err-made
returns-in_err-made c =
    let e = c.in_err-made.field-0.0 in
    let is : c.from_residual.result ≡ Err e = search rules in
    rw is (not-demonstrated c.args.values.now c.args.script.now e c.in_err-made.ensures)
