use Rattle.std.proofs.Common.{◌≡◌, ◌++◌, ◌∷◌, [], ◌∙◌, sym, ap, arith, length, length-append}
use Rattle.vx_file.specs.CompactScript.{step_by}
use Rattle.vx_file.proofs.CompactLemmas.{numbers-pushed, steps-pushed}
use Rattle.vx_file.proofs.script.Script.push_kind.Goals as goal

pub invariant_of-self-in-Ok : goal.invariant_of-self-in-Ok
invariant_of-self-in-Ok c =
    let inside = c.self.inside in
    let kept = c.self.invariant in
    let more = numbers-pushed inside.kinds.items c.args.kind in
    let long = length-append inside.numbers.items c.args.numbers.now in
    let made = c.requires in
    rw (c.in_ok-push.ensures.items, c.in-Ok.ensures.items) (omega (arith, kept, more, long, made))

pub returns-in-Ok-clause-ok : goal.returns-in-Ok-clause-ok
returns-in-Ok-clause-ok c =
    let inside = c.self.inside in
    rw (c.in_ok-push.ensures.items, c.in-Ok.ensures.items) (steps-pushed inside.kinds.items inside.numbers.items c.args.numbers.now c.args.kind c.self.invariant c.requires
    ∙ ap (λ l. l ++ step_by c.args.kind c.args.numbers.now ∷ []) c.self.view_is)
