use Rattle.std.proofs.Common.{subst, sym, ◌-◌, List, ℕ, rules}
use Rattle.vx_rows.specs.Columns.{AreTexts}
use Rattle.vx_rows.proofs.CutLemmas.{texts_seen, utf8_cut}
use Rattle.vx_rows.proofs.text_column.TextColumn.part.Goals as goal

pub with_places-requires-clause-texts : goal.with_places-requires-clause-texts
with_places-requires-clause-texts c =
    let s = c.self.inside in
    let inside = texts_seen s.may_be_null s.present s.held.bytes s.places s.count c.args.to c.args.self.now c.self.view_is c.requires.inside in
    subst (λ (ps : List ℕ). AreTexts s.held.bytes ps (c.args.to - c.args.from)) (sym (search rules))
    (utf8_cut s.present s.held.bytes s.places s.count c.args.from c.args.to c.requires.ordered inside c.self.invariant.0 c.self.invariant.3)
