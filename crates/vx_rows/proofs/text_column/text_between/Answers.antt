use Rattle.std.proofs.Common.{◌≡◌, ℕ, ◌+◌, sym, subst}
use Rattle.std.specs.Prelude.{slice_index, slice_range}
use Rattle.std.specs.Str.{IsUtf8}
use Rattle.vx_rows.proofs.text_column.text_between.Goals as goal

pub text_of-requires : goal.text_of-requires
text_of-requires c =
    let from : c.at-from.result ≡ slice_index c.args.places.now c.args.row = c.at-from.ensures in
    let to : c.behind-to.result ≡ slice_index c.args.places.now (c.args.row + 1) = c.behind-to.ensures in
    subst (λ (k : ℕ). IsUtf8 (slice_range c.args.bytes.now k c.behind-to.result)) (sym from)
    (subst (λ (k : ℕ). IsUtf8 (slice_range c.args.bytes.now (slice_index c.args.places.now c.args.row) k)) (sym to) (c.requires.texts.text c.args.row c.requires.less))
