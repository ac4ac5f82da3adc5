use Rattle.vx_base.specs.Asking.{names}
use Rattle.vx_base.proofs.MatchingLemmas.{place-found, place-left, no_place-found, no_place-left}
use Rattle.vx_base.proofs.matching.take_answer.Goals as goal

pub returns-in-Some-clause-found : goal.returns-in-Some-clause-found
returns-in-Some-clause-found g c =
    place-found (names c.args.range.now) c.args.answers.now.items c.in-Some.place c.remove.result (cc) c.remove.ensures.value

pub returns-in-Some-clause-left : goal.returns-in-Some-clause-left
returns-in-Some-clause-left g c =
    rw c.remove.ensures.items (place-left (names c.args.range.now) c.args.answers.now.items c.in-Some.place (cc))

pub returns-in-None-clause-found : goal.returns-in-None-clause-found
returns-in-None-clause-found g c = no_place-found (names c.args.range.now) c.args.answers.now.items cc

pub returns-in-None-clause-left : goal.returns-in-None-clause-left
returns-in-None-clause-left g c = no_place-left (names c.args.range.now) c.args.answers.now.items cc
