use Rattle.std.proofs.Common.{◌∙◌, List, [], ap, refl, subst, length, rules}
use Rattle.vx_base.specs.declared.segment.SegmentSpec.{SegmentSpec}
use Rattle.vx_data.specs.Layout.{LayoutTree}
use Rattle.vx_footer.specs.FieldSizes.{AreSizes, references_of}
use Rattle.vx_footer.proofs.CountLemmas.{commons_long, named_are}
use Rattle.vx_footer.proofs.footer.Footer.compressed_field_sizes.Goals as goal

pub sizes_of-requires-clause-count : goal.sizes_of-requires-clause-count
sizes_of-requires-clause-count c = ap length c.in_ok-gathered.ensures.commons ∙ commons_long _ (references_of [] c.layout.result.now)

pub returns : goal.returns
returns c =
    let t = c.layout.result.now in
    let ss = c.segment_map-segments.result.now in
    let sizes = c.in_ok-sizes_of.field-0 in
    let given : AreSizes t ss sizes = c.in_ok-sizes_of.ensures t ss c.in_ok-gathered.ensures.paths (named_are ss _ c.min.result c.min.ensures refl) c.in_ok-gathered.ensures.commons in (
      (search rules),
      subst (λ (u : LayoutTree). AreSizes u c.args.self.now.content.segments sizes) c.layout.ensures
          (subst (λ (xs : List SegmentSpec). AreSizes t xs sizes) c.segment_map-segments.ensures given),
    )
