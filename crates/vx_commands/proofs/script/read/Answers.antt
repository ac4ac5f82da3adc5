use Rattle.std.proofs.Common.{arith, sym, ap, ◌∙◌, ◌≡◌, rules, take, ◌+◌, ◌<◌, length, length-drop, Some, None}
use Rattle.vx_commands.specs.Script.{step_of, line_length, script_of}
use Rattle.vx_commands.proofs.Lines.{script-refused, script-longer}
use Rattle.vx_commands.proofs.script.read.Goals as goal

pub returns-in_default : goal.returns-in_default
returns-in_default c =
    let none : step_of (take (line_length c.loop-rest.rest.now) c.loop-rest.rest.now) ≡ None = rw (← c.line_end-end.ensures.length) (sym c.step.ensures ∙ c.in_default.is) in
    script-refused c.loop-rest.script c.loop-rest.line c.loop-rest.rest.now _ (search rules) c.loop-rest.invariant.told none

pub loop-rest-preserved : goal.loop-rest-preserved
loop-rest-preserved c =
    let some : step_of (take (line_length c.loop-rest.rest.now) c.loop-rest.rest.now) ≡ Some c.in-Some.next = rw (← c.line_end-end.ensures.length) (sym c.step.ensures ∙ c.in-Some.is) in
    let longer = script-longer c.loop-rest.script c.loop-rest.line c.loop-rest.rest.now (script_of c.args.text.now) c.in-Some.next (search rules) c.loop-rest.invariant.told some in
    let some_left : 0 < length c.loop-rest.rest.now = search rules in
    record { room = omega (arith, ap length c.after_line-rest.ensures, length-drop (c.line_end-end.result + 1) c.loop-rest.rest.now); told = rw (c.in_ok-push.ensures.ok, c.after_line-rest.ensures, c.line_end-end.ensures.length) longer }
