use Rattle.std.proofs.Common.{◌≡◌, None, ◌∙◌, arith, rules}
use Rattle.std.specs.Prelude.{slice_index, slice_range}
use Rattle.std.specs.List.{flat_map}
use Rattle.vx_rows.specs.Written.{text_bytes}
use Rattle.vx_rows.proofs.BehindLemmas.{places_ascend, texts_together}
use Rattle.vx_rows.proofs.text_column.TextColumn.push_texts.Goals as goal

pub all_between-all-requires-clause-ordered : goal.all_between-all-requires-clause-ordered
all_between-all-requires-clause-ordered c =
    places_ascend c.self.inside.held.bytes c.self.inside.places c.self.inside.count c.self.invariant.2 0 c.self.inside.count (omega arith) (omega arith)

pub returns-then-self-gt0 : goal.returns-then-self-gt0
returns-then-self-gt0 c =
    let s = c.self.inside in
    let none : s.present ≡ None = search rules in
    let a : c.all_between-all.result.now ≡ slice_range s.held.bytes (slice_index s.places 0) (slice_index s.places s.count) = search rules in
    let all : c.all_between-all.result.now ≡ flat_map text_bytes c.args.self.now.rows =
    a ∙ texts_together s.may_be_null s.present s.held.bytes s.places s.count c.args.self.now c.self.view_is none c.self.invariant.2 in
    search (all, rules)
