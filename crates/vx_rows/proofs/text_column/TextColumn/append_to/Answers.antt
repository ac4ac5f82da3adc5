use Rattle.std.proofs.Common.{◌≡◌, ℕ, ◌++◌, List, length, Option, ap, sym, ◌∙◌, subst, arith, rules}
use Rattle.std.specs.Prelude.{slice_index, slice_range}
use Rattle.vx_rows.specs.Span.{span}
use Rattle.vx_rows.specs.Columns.{Texts, text_row}
use Rattle.vx_rows.specs.TextsBehind.{end_from, ComeBehind}
use Rattle.vx_rows.proofs.BehindLemmas.{places_ascend, come_behind}
use Rattle.vx_rows.proofs.text_column.TextColumn.append_to.Goals as goal

pub all_between-all-requires-clause-ordered : goal.all_between-all-requires-clause-ordered
all_between-all-requires-clause-ordered c =
    places_ascend c.self.inside.held.bytes c.self.inside.places c.self.inside.count c.self.invariant.2 0 c.self.inside.count (omega arith) (omega arith)

pub push_ends-requires-clause-least : goal.push_ends-requires-clause-least
push_ends-requires-clause-least c row l = places_ascend c.self.inside.held.bytes c.self.inside.places c.self.inside.count c.self.invariant.2 0 row (omega arith) l

pub push_ends-requires-clause-greatest : goal.push_ends-requires-clause-greatest
push_ends-requires-clause-greatest c row l =
    places_ascend c.self.inside.held.bytes c.self.inside.places c.self.inside.count c.self.invariant.2 row c.self.inside.count l (omega arith)

pub returns-in-Ok-clause-ok : goal.returns-in-Ok-clause-ok
returns-in-Ok-clause-ok c n long end r x =
    let q = c.self.inside.places in
    let held = c.self.inside.held.bytes in
    let count = c.self.inside.count in
    let present = c.self.inside.present in
    let a : c.all_between-all.result.now ≡ slice_range held (slice_index q 0) (slice_index q count) = search rules in
    let b : c.extend_from_slice.new.self.items ≡ c.args.bytes.now.items ++ c.all_between-all.result.now = search rules in
    let s : c.len-start.result ≡ length c.args.bytes.now.items = search rules in
    let p : c.push_ends.new.self ≡ c.args.places.now ++ span (end_from q c.len-start.result) 0 count = c.in-Ok.ensures.ok in
    let bytes-are = b ∙ ap (λ xs. c.args.bytes.now.items ++ xs) a in
    let places-are = p ∙ ap (λ k. c.args.places.now ++ span (end_from q k) 0 count) s in
    subst (λ (rows : List (Option (List ℕ))). ComeBehind rows n c.args.bytes.now.items c.args.places.now c.extend_from_slice.new.self.items c.push_ends.new.self)
    (ap (λ (t : Texts). t.rows) c.self.view_is)
    (subst (λ (ps : List ℕ). ComeBehind (span (text_row present held q) 0 count) n c.args.bytes.now.items c.args.places.now c.extend_from_slice.new.self.items ps) (sym places-are)
    (subst (λ (bs : List ℕ). ComeBehind (span (text_row present held q) 0 count) n c.args.bytes.now.items c.args.places.now bs (c.args.places.now ++ span (end_from q (length c.args.bytes.now.items)) 0 count)) (sym bytes-are)
    (come_behind present held q count (omega (arith, c.if-self-eq0.false)) c.self.invariant.2 c.self.invariant.3 n c.args.bytes.now.items c.args.places.now long end r x)))
