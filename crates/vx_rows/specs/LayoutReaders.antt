-- Readers of layouts.
use Rattle.vx_data.specs.Layout.{LayoutTree}
use Rattle.vx_rows.specs.declared.layout_reader.LayoutReader.{LayoutReader}

-- the layout that a reader reads
abbrev pub tree_of : LayoutReader → LayoutTree
tree_of r = r.layout
