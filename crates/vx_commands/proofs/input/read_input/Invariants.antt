use Rattle.std.proofs.Common.{◌≡◌, ◌≤◌, ◌<◌, ◌+◌, ◌-◌, ℕ, List, length, take, drop, Some, true, vec_len}
use Rattle.vx_base.specs.Streams.{SameSource}
use Rattle.vx_commands.specs.declared.input.TheConstants.{MOST_INPUT}
use Rattle.vx_commands.proofs.input.read_input.Given as goal

abbrev pub invariant-loop-text : goal.invariant-loop-text
invariant-loop-text g l =
    let state = g.I.Source.state in
    record {
      told : (r : List ℕ) → (state l.fn.input).rest ≡ Some r → ((state l.input).rest ≡ Some (drop (vec_len l.text) r)) × (l.text.items ≡ take (vec_len l.text) r) × (vec_len l.text ≤ length r);
      bound : vec_len l.text ≤ MOST_INPUT + 1;
      piece : 0 < vec_len l.buffer;
      sound : (state l.fn.input).never_fails ≡ true → (state l.input).faults ≡ (state l.fn.input).faults;
      same : SameSource (state l.fn.input) (state l.input);
    }

abbrev pub decreases-loop-text : goal.decreases-loop-text
decreases-loop-text g l = MOST_INPUT + 1 - vec_len l.text
