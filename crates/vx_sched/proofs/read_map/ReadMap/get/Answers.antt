use Rattle.std.proofs.Common.{◌≡◌, Some, None, option_map, ap, sym, ◌∙◌, arith}
use Rattle.std.proofs.lemmas.Grind.{common_steps}
use Rattle.vx_sched.specs.BitSet.{is_raised}
use Rattle.vx_sched.specs.Entries.{Entries, entry_at}
use Rattle.vx_sched.specs.Told.{told_read}
use Rattle.vx_sched.proofs.ToldLemmas.{told-at}
use Rattle.vx_sched.proofs.read_map.ReadMap.get.Goals as goal

pub returns-in-Some : goal.returns-in-Some
returns-in-Some c =
    let found : entry_at c.self.inside.slots c.args.id ≡ Some c.in-Some.read = grind (arith, common_steps) in
    let same : c.new.result ≡ told_read (is_raised c.self.inside.waits c.args.id) (is_raised c.self.inside.polls c.args.id) c.in-Some.read = grind (arith, common_steps) in
    ap Some same ∙ sym (told-at c.self.inside.waits c.self.inside.polls c.self.inside.slots c.args.id
    ∙ ap (option_map (told_read (is_raised c.self.inside.waits c.args.id) (is_raised c.self.inside.polls c.args.id))) found)
    ∙ ap (λ (es : Entries). entry_at es c.args.id) c.self.view_is

pub returns-in-None : goal.returns-in-None
returns-in-None c =
    let found : entry_at c.self.inside.slots c.args.id ≡ None = grind (arith, common_steps) in
    sym (told-at c.self.inside.waits c.self.inside.polls c.self.inside.slots c.args.id
    ∙ ap (option_map (told_read (is_raised c.self.inside.waits c.args.id) (is_raised c.self.inside.polls c.args.id))) found)
    ∙ ap (λ (es : Entries). entry_at es c.args.id) c.self.view_is
