use Rattle.std.proofs.Common.{◌≡◌, sym, subst, rules}
use Rattle.vx_base.specs.Buffer.{Buffer}
use Rattle.vx_rows.specs.Columns.{AreRanges, AreTexts}
use Rattle.vx_rows.proofs.text_column.TextColumn.with_places.Goals as goal

pub invariant_of-result : goal.invariant_of-result
invariant_of-result c =
    let same : c.in_ok-share.field-0 ≡ c.args.held.now = search rules in (
      c.requires.long,
      c.requires.present,
      subst (λ (h : Buffer). AreRanges h.bytes c.args.places c.args.count) (sym same) c.requires.ranges,
      subst (λ (h : Buffer). AreTexts h.bytes c.args.places c.args.count) (sym same) c.requires.texts,
    )
