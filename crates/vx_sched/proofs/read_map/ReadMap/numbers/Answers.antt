use Rattle.std.proofs.Common.{ap, sym, ◌∙◌}
use Rattle.std.specs.Map.{keys_of}
use Rattle.vx_sched.specs.Entries.{Entries}
use Rattle.vx_sched.proofs.ToldLemmas.{told-keys}
use Rattle.vx_sched.proofs.read_map.ReadMap.numbers.Goals as goal

pub returns : goal.returns
returns c =
    c.in_ok-numbers.ensures ∙ sym (told-keys c.self.inside.waits c.self.inside.polls c.self.inside.slots) ∙ ap (λ (es : Entries). keys_of es) c.self.view_is
