use Rattle.std.proofs.Common.{◌≡◌, ◌≤◌, ◌-◌, ◌^◌, None, length, sum_by, sym, ap, ◌∙◌, rules, arith}
use Rattle.std.specs.Prelude.{slice_index, slice_range}
use Rattle.std.proofs.Math.Nat.{min-eq_left}
use Rattle.vx_rows.specs.Written.{text_bytes}
use Rattle.vx_rows.proofs.BehindLemmas.{places_ascend, texts_sum}
use Rattle.vx_rows.proofs.SizeLemmas.{capped, sum_past, slice_len}
use Rattle.vx_rows.proofs.text_column.TextColumn.bytes_len.Goals as goal

pub all_between-all-requires-clause-ordered : goal.all_between-all-requires-clause-ordered
all_between-all-requires-clause-ordered c =
    places_ascend c.self.inside.held.bytes c.self.inside.places c.self.inside.count c.self.invariant.2 0 c.self.inside.count (omega arith) (omega arith)

pub returns-then-self-gt0 : goal.returns-then-self-gt0
returns-then-self-gt0 c =
    let s = c.self.inside in
    let none : s.present ≡ None = search rules in
    let a : c.all_between-all.result.now ≡ slice_range s.held.bytes (slice_index s.places 0) (slice_index s.places s.count) = search rules in
    let sum : length c.all_between-all.result.now ≡ sum_by (λ row. length (text_bytes row)) c.args.self.now.rows =
    ap length a ∙ texts_sum s.may_be_null s.present s.held.bytes s.places s.count c.args.self.now c.self.view_is none c.self.invariant.2 in
    let size = slice_len s.held.bytes (slice_index s.places 0) (slice_index s.places s.count) in
    let held = c.as_slice.ensures.bound in
    let small : sum_by (λ row. length (text_bytes row)) c.args.self.now.rows ≤ 2 ^ 64 - 1 = omega (arith, sum, ap length a, size, held) in
    sum ∙ sym (min-eq_left small)

pub returns : goal.returns
returns c =
    let past : length c.args.self.now.rows ≤ c.loop-row.row = search (rules, arith) in
    capped c.loop-row.size _ _ c.loop-row.invariant.0 (sum_past (λ row. length (text_bytes row)) c.args.self.now.rows c.loop-row.row past) c.loop-row.invariant.1
