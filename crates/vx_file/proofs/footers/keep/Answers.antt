use Rattle.std.proofs.Common.{arith, sym, ◌∙◌, string_bytes}
use Rattle.std.specs.Str.{bytes_eq}
use Rattle.vx_file.proofs.KeptLemmas.{removed_weighs}
use Rattle.vx_file.proofs.footers.keep.Goals as goal

pub overflow_sub-result : goal.overflow_sub-result
overflow_sub-result c =
    let on = removed_weighs (bytes_eq (string_bytes c.args.key)) c.args.kept.now c.in-Some.old (sym c.in-Some.is ∙ c.in_ok-old.ensures.value) in
    omega (arith, on, c.requires.weighs, c.weight_of.ensures.value)
