use Rattle.std.proofs.Common.{rules, ◌≡◌, List, ℕ, None, Err, sym, ap, ◌∙◌}
use Rattle.vx_file.specs.Hints.{no_hints}
use Rattle.vx_file.specs.Ranges.{tail_ranges}
use Rattle.vx_footer.specs.Opening.{vx_grammar}
use Rattle.vx_commands.proofs.Summing.{not_refused, whole_opening}
use Rattle.vx_commands.proofs.commands.generate.opening_of.Goals as goal

pub unreachable-requires : goal.unreachable-requires
unreachable-requires c =
    let told = rw c.in-Err-Open.field-0-is at c.in-Err-Open.ensures in
    let bytes : c.in_ok-file.file.bytes ≡ c.args.bytes.items = search rules in
    let fails : vx_grammar c.args.bytes.items None ≡ Err c.in-Err-Open.field-0-0 = ap (λ (b : List ℕ). vx_grammar b None) (sym bytes) ∙ told in
    not_refused (vx_grammar c.args.bytes.items None) c.in-Err-Open.field-0-0 c.requires fails

pub returns-in-Ok : goal.returns-in-Ok
returns-in-Ok c =
    let bytes : c.in_ok-file.file.bytes ≡ c.args.bytes.items = search rules in
    whole_opening c.in_ok-file.file.bytes _ c.in-Ok.served c.in-Ok.ensures ∙ ap (tail_ranges no_hints) bytes
