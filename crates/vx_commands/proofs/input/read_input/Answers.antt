use Rattle.std.proofs.Common.{◌≡◌, refl, ◌∙◌, ap, sym, arith, rules, Err, length, take, ℕ, Vec, Global}
use Rattle.std.proofs.lemmas.Result.{err_from_is_err_and}
use Rattle.vx_base.specs.Streams.{same_source-then}
use Rattle.vx_commands.proofs.Streaming.{reading-turn, reading-ends, reading-long, err-cause, rises-from}
use Rattle.vx_commands.proofs.input.read_input.Goals as goal

pub loop-text-preserved : goal.loop-text-preserved
loop-text-preserved g c =
    let state = g.I.Source.state in
    let turn = c.in_ok-n.ensures in
    record {
      told = λ r e. let h = c.loop-text.invariant.told r e in reading-turn r _ _ _ _ _ _ c.in_ok-n.n h (turn.told _ h.0) turn.bound.1;
      bound = let size : length (take c.min-room.result c.deref_mut.result.now) ≡ c.min-room.result = search rules in omega (arith, turn.bound.0, turn.bound.1, size);
      piece = c.loop-text.invariant.piece;
      sound = λ sound. (turn.sound (c.loop-text.invariant.same.never_fails ∙ sound)).1 ∙ c.loop-text.invariant.sound sound;
      same = same_source-then (state c.args.input.now) (state c.loop-text.input) (state c.take_some.new.input) c.loop-text.invariant.same turn.same;
    }

pub returns-in_err-n-clause-cause : goal.returns-in_err-n-clause-cause
returns-in_err-n-clause-cause g c =
    let exit = err_from_is_err_and c.from_residual-in_err-n.result c.from_residual-in_err-n.ensures.1 in
    let turn = c.in_err-n.ensures in
    let start = c.loop-text.invariant.same.never_falls in
    let from = exit.2 in
    rw exit.1 (err-cause {A = Vec ℕ Global} (λ v. v.items) (g.I.Source.state c.args.input.now) (g.I.Source.state c.take_some.new.input) exit.0 (λ e. rises-from _ _ _ start (turn.failed (ap Err (sym from ∙ e)))) (λ e. turn.short (ap Err (sym from ∙ e))))

pub returns-then-n-eq0-clause-cause : goal.returns-then-n-eq0-clause-cause
returns-then-n-eq0-clause-cause g c = λ r e.
    let turn = c.in_ok-n.ensures in
    let h = c.loop-text.invariant.told r e in
    reading-ends r _ _ _ _ _ _ c.in_ok-n.n (g.I.Source.state c.take_some.new.input) h (turn.told _ h.0) turn.bound.1 (turn.end _ c.if-n-eq0.true (let size : length (take c.min-room.result c.deref_mut.result.now) ≡ c.min-room.result = search rules in omega (arith, size)) h.0) (omega arith) refl

pub returns-clause-cause : goal.returns-clause-cause
returns-clause-cause g c = λ r e. reading-long r _ _ (g.I.Source.state c.loop-text.input) (c.loop-text.invariant.told r e) (omega arith)
