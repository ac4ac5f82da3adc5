use Rattle.std.specs.Prelude.{◌≡◌, map, string_bytes}
use Rattle.vx_base.specs.Openers.{SameOpener}
use Rattle.vx_rows.specs.Rows.{column_view, dtype_of}
use Rattle.vx_file.specs.Hints.{no_hints}
use Rattle.vx_file.specs.MultiFiles.{chosen_by}
use Rattle.vx_file.specs.Scans.{seen}
use Rattle.vx_file.proofs.MultiLemmas.{Reads}
use Rattle.vx_file.proofs.multi_file.read_all.Given as goal

abbrev pub invariant-loop-at : goal.invariant-loop-at
invariant-loop-at g l =
    Reads (chosen_by (goal.G-post g l.options) (λ p. (p.options ≡ no_hints) × (p.session ≡ l.session)) (λ o. o.options) (λ o. g.C.SegmentCache.state o.cache))
    (dtype_of (column_view l.like)) (map string_bytes l.names) l.at (g.F.Opener.state l.initial.files) (g.F.Opener.state l.files)
    (seen l.initial.columns.items) (seen l.columns.items)
    × SameOpener (g.F.Opener.state l.initial.files) (g.F.Opener.state l.files)
