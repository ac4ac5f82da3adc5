use Rattle.std.proofs.Common.{arith}
use Rattle.std.specs.Str.{bytes_eq}
use Rattle.vx_file.proofs.KeptLemmas.{removed_weighs}
use Rattle.vx_file.proofs.footers.MultiFileSession.forget.Goals as goal

pub overflow_sub-self : goal.overflow_sub-self
overflow_sub-self c =
    let on = removed_weighs (bytes_eq c.args.path.now) c.self.inside.kept c.in-Some.footer c.in-Some.ensures.value in
    omega (arith, on, c.self.invariant, c.weight_of.ensures.value)
