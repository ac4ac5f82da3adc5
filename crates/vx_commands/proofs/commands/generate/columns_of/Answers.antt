use Rattle.std.proofs.Common.{Err, ap, ◌∙◌}
use Rattle.vx_footer.specs.declared.sizes_error.SizesError.TheVariants.{MissingSegment}
use Rattle.vx_footer.specs.FieldSizes.{missing}
use Rattle.vx_commands.proofs.MadeSegments.{not_missing}
use Rattle.vx_commands.proofs.commands.generate.columns_of.Goals as goal

pub unreachable-requires : goal.unreachable-requires
unreachable-requires c =
    let e = c.in-Err-MissingSegment in
    let f = c.args.summary.now.footer.content in
    not_missing (missing f.layout f.segments) e.field-0-0.0 c.requires (c.compressed_column_sizes.ensures.refused (MissingSegment e.field-0-0) (e.is ∙ ap Err e.field-0-is))
