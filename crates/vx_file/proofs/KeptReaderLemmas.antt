-- Readers that are kept are those of the footer that their place names.
use Rattle.std.proofs.Common.{◌≡◌, ℕ, List, Option, ap, ap₂, ◌∙◌}
use Rattle.vx_data.specs.Layout.{LayoutTree}
use Rattle.vx_footer.specs.FileStats.{FileStats}
use Rattle.vx_footer.specs.Footers.{FooterContent}
use Rattle.vx_prune.specs.Tags.{tag_of, tag_tells}
use Rattle.vx_file.specs.declared.layout_readers.FileLayoutReader.{FileLayoutReader}
use Rattle.vx_file.specs.KeptReaders.{parts_code, tag_of_footer, tag_of_reader}
use Rattle.vx_file.specs.LayoutReaders.{layout_in, statistics_in}

kept_parts : (r : FileLayoutReader) (f : FooterContent) (tag : List ℕ) → tag_of_reader r ≡ tag → tag ≡ tag_of_footer f
    → ◌≡◌ {A = LayoutTree × Option FileStats} (layout_in r, statistics_in r) (f.layout, f.statistics)
kept_parts r f tag e h = tag_tells parts_code (layout_in r, statistics_in r) (f.layout, f.statistics) (e ∙ h)

pub kept_layout : (r : FileLayoutReader) (f : FooterContent) (tag : List ℕ) → tag_of_reader r ≡ tag → tag ≡ tag_of_footer f → layout_in r ≡ f.layout
kept_layout r f tag e h = ap (λ (x : LayoutTree × Option FileStats). x.0) (kept_parts r f tag e h)

pub kept_statistics : (r : FileLayoutReader) (f : FooterContent) (tag : List ℕ) → tag_of_reader r ≡ tag → tag ≡ tag_of_footer f → statistics_in r ≡ f.statistics
kept_statistics r f tag e h = ap (λ (x : LayoutTree × Option FileStats). x.1) (kept_parts r f tag e h)

pub kept_tag : (r : FileLayoutReader) (f : FooterContent) → layout_in r ≡ f.layout → statistics_in r ≡ f.statistics → tag_of_reader r ≡ tag_of_footer f
kept_tag r f e h = ap₂ (λ (t : LayoutTree) (s : Option FileStats). tag_of parts_code (t, s)) e h
