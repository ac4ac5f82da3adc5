use Rattle.std.proofs.Common.{◌≡◌, None, rules}
use Rattle.std.specs.List.{flat_map}
use Rattle.std.specs.Int.{w32, to_le_bytes}
use Rattle.vx_rows.specs.Span.{span}
use Rattle.vx_rows.specs.Written.{length_bytes}
use Rattle.vx_rows.specs.TextsBehind.{length_from}
use Rattle.vx_rows.proofs.BehindLemmas.{lengths_together}
use Rattle.vx_rows.proofs.text_column.TextColumn.push_lengths.Goals as goal

pub returns-then-is_none : goal.returns-then-is_none
returns-then-is_none c =
    let s = c.self.inside in
    let none : s.present ≡ None = search rules in
    let all : flat_map (to_le_bytes w32) (span (length_from s.places) 0 s.count) ≡ flat_map length_bytes c.args.self.now.rows =
    lengths_together s.may_be_null s.present s.held.bytes s.places s.count c.args.self.now c.self.view_is none c.self.invariant.2 in
    search (all, rules)
