use Rattle.std.proofs.Common.{ap, sym, ◌∙◌, arith}
use Rattle.vx_sched.specs.Reads.{Reads, polled_at}
use Rattle.vx_sched.proofs.SeenLemmas.{stands-kept, polled-seen}
use Rattle.vx_sched.proofs.TableLemmas.{polls-polled}
use Rattle.vx_sched.proofs.table.Table.has_polled.Goals as goal

pub returns-in-Some-clause-some : goal.returns-in-Some-clause-some
returns-in-Some-clause-some c _ =
    let stands = stands-kept c.self.inside.reads c.self.inside.places c.self.inside.longest c.self.invariant.kept in (
      c.in-Some._number,
      sym (ap (λ (reads : Reads). polled_at reads c.in-Some._number) c.self.view_is) ∙ polled-seen c.self.inside.reads c.in-Some._number stands.keyed
          ∙ sym (polls-polled c.self.inside.reads c.in-Some._number) ∙ c.in-Some.ensures.polled,
    )

pub returns-in-None-clause-none : goal.returns-in-None-clause-none
returns-in-None-clause-none c _ q =
    let stands = stands-kept c.self.inside.reads c.self.inside.places c.self.inside.longest c.self.invariant.kept in
    sym (ap (λ (reads : Reads). polled_at reads q) c.self.view_is) ∙ polled-seen c.self.inside.reads q stands.keyed
    ∙ sym (polls-polled c.self.inside.reads q) ∙ c.in-None.ensures.none q (omega arith)
