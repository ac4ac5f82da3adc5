use Rattle.std.proofs.Common.{refl, sym, subst}
use Rattle.vx_sched.specs.Places.{AreApart}
use Rattle.vx_sched.proofs.TableLemmas.{same-table}
use Rattle.vx_sched.proofs.places.Places.insert.Goals as goal

pub returns-in_err-note-clause-kept : goal.returns-in_err-note-clause-kept
returns-in_err-note-clause-kept c entries longest t none =
    same-table entries entries c.forget.new.self c.note.new.self longest (c.forget.ensures.kept entries longest t none) refl c.note.ensures.all

pub returns-in_err-note-clause-apart : goal.returns-in_err-note-clause-apart
returns-in_err-note-clause-apart c entries longest t = subst (AreApart c.args.place.1) (sym c.note.ensures.all.sorted) (c.forget.ensures.apart entries longest t)

pub returns-clause-kept : goal.returns-clause-kept
returns-clause-kept c entries longest t none =
    same-table entries entries c.forget.new.self c.note.new.self longest (c.forget.ensures.kept entries longest t none) refl c.note.ensures.all

pub returns-clause-apart : goal.returns-clause-apart
returns-clause-apart c entries longest t = subst (AreApart c.args.place.1) (sym c.note.ensures.all.sorted) (c.forget.ensures.apart entries longest t)
