-- Types as trees of numbers, by which a proof tells them apart.
use Rattle.std.specs.Prelude.{[], refl}
use Rattle.std.specs.Coded.{Coded, code_by}
use Rattle.vx_data.specs.declared.layout_kind.LayoutKind.TheVariants.{Flat}
use Rattle.vx_data.specs.Codes.{tree_code}
use Rattle.vx_data.specs.Dtype.{Dtype}
use Rattle.vx_data.specs.Layout.{LayoutTree, node, no_layouts, dtype_of}

abbrev pub dtype_code : Coded Dtype
dtype_code = code_by LayoutTree tree_code (λ d. node Flat d 0 [] no_layouts) dtype_of (λ d. refl)
