-- Types and layouts as trees of numbers, by which a proof tells them apart.
use Rattle.std.specs.Prelude.{◌≡◌, ℕ, Bool, true, false, List, [], ◌∷◌, refl}
use Rattle.std.proofs.Common.{ap, ap₂}
use Rattle.std.specs.Coded.{Coded, code_by}
use base.Stored.{Gv, gnil, gnum, gcons}
use Rattle.vx_data.specs.declared.ptype.PType.{PType}
use Rattle.vx_data.specs.declared.ptype.PType.TheVariants.{U8, U16, U32, U64, I8, I16, I32, I64}
use Rattle.vx_data.specs.declared.layout_kind.LayoutKind.{LayoutKind}
use Rattle.vx_data.specs.declared.layout_kind.LayoutKind.TheVariants.{Flat, Chunked, Struct}
use Rattle.vx_data.specs.Dtype.{Dtype, bool, int, text, struct, FieldList, no_fields, field}
use Rattle.vx_data.specs.Layout.{LayoutTree, node, Layouts, no_layouts, a_layout}

abbrev pub coded_Gv : Coded Gv
coded_Gv = record { code = λ x. x; inj = λ x y p. p }

-- ---- truth values, numbers and lists of numbers

abbrev pub flag_to : Bool → Gv
flag_to true = gnil
flag_to false = gnum 0

abbrev pub flag_from : Gv → Bool
flag_from gnil = true
flag_from (gnum n) = false
flag_from (gcons a b) = false

flag_back : (b : Bool) → flag_from (flag_to b) ≡ b
flag_back true = refl
flag_back false = refl

abbrev pub number_from : Gv → ℕ
number_from gnil = 0
number_from (gnum n) = n
number_from (gcons a b) = 0

abbrev pub numbers_to : List ℕ → Gv
numbers_to [] = gnil
numbers_to (n ∷ ns) = gcons (gnum n) (numbers_to ns)

abbrev pub numbers_from : Gv → List ℕ
numbers_from gnil = []
numbers_from (gnum n) = []
numbers_from (gcons a b) = number_from a ∷ numbers_from b

numbers_back : (ns : List ℕ) → numbers_from (numbers_to ns) ≡ ns
numbers_back [] = refl
numbers_back (n ∷ ns) = ap (λ ms. n ∷ ms) (numbers_back ns)

-- ---- types

abbrev pub ptype_to : PType → Gv
ptype_to U8 = gnil
ptype_to U16 = gnum 0
ptype_to U32 = gcons gnil gnil
ptype_to U64 = gcons gnil (gnum 0)
ptype_to I8 = gcons (gnum 0) gnil
ptype_to I16 = gcons (gnum 0) (gnum 0)
ptype_to I32 = gcons (gcons gnil gnil) gnil
ptype_to I64 = gcons (gcons gnil gnil) (gnum 0)

abbrev pub ptype_from : Gv → PType
ptype_from gnil = U8
ptype_from (gnum n) = U16
ptype_from (gcons gnil gnil) = U32
ptype_from (gcons gnil (gnum n)) = U64
ptype_from (gcons gnil (gcons a b)) = U64
ptype_from (gcons (gnum m) gnil) = I8
ptype_from (gcons (gnum m) (gnum n)) = I16
ptype_from (gcons (gnum m) (gcons a b)) = I16
ptype_from (gcons (gcons a b) gnil) = I32
ptype_from (gcons (gcons a b) (gnum n)) = I64
ptype_from (gcons (gcons a b) (gcons c d)) = I64

ptype_back : (p : PType) → ptype_from (ptype_to p) ≡ p
ptype_back U8 = refl
ptype_back U16 = refl
ptype_back U32 = refl
ptype_back U64 = refl
ptype_back I8 = refl
ptype_back I16 = refl
ptype_back I32 = refl
ptype_back I64 = refl

abbrev mutual
  pub dtype_to : Dtype → Gv
  dtype_to (bool n) = gcons gnil (flag_to n)
  dtype_to (int p n) = gcons (gnum 0) (gcons (ptype_to p) (flag_to n))
  dtype_to (text n) = gcons (gcons gnil gnil) (flag_to n)
  dtype_to (struct fs n) = gcons (gcons gnil (gnum 0)) (gcons (fields_to fs) (flag_to n))

  pub fields_to : FieldList → Gv
  fields_to no_fields = gnil
  fields_to (field n d fs) = gcons (numbers_to n) (gcons (dtype_to d) (fields_to fs))

abbrev mutual
  pub dtype_from : Gv → Dtype
  dtype_from gnil = bool true
  dtype_from (gnum n) = bool true
  dtype_from (gcons gnil r) = bool (flag_from r)
  dtype_from (gcons (gnum n) gnil) = bool true
  dtype_from (gcons (gnum n) (gnum m)) = bool true
  dtype_from (gcons (gnum n) (gcons p r)) = int (ptype_from p) (flag_from r)
  dtype_from (gcons (gcons a gnil) r) = text (flag_from r)
  dtype_from (gcons (gcons a (gnum n)) gnil) = bool true
  dtype_from (gcons (gcons a (gnum n)) (gnum m)) = bool true
  dtype_from (gcons (gcons a (gnum n)) (gcons fs r)) = struct (fields_from fs) (flag_from r)
  dtype_from (gcons (gcons a (gcons b c)) r) = bool true

  pub fields_from : Gv → FieldList
  fields_from gnil = no_fields
  fields_from (gnum n) = no_fields
  fields_from (gcons n gnil) = no_fields
  fields_from (gcons n (gnum m)) = no_fields
  fields_from (gcons n (gcons d fs)) = field (numbers_from n) (dtype_from d) (fields_from fs)

mutual
  dtype_back : (d : Dtype) → dtype_from (dtype_to d) ≡ d
  dtype_back (bool n) = ap bool (flag_back n)
  dtype_back (int p n) = ap₂ int (ptype_back p) (flag_back n)
  dtype_back (text n) = ap text (flag_back n)
  dtype_back (struct fs n) = ap₂ struct (fields_back fs) (flag_back n)

  fields_back : (fs : FieldList) → fields_from (fields_to fs) ≡ fs
  fields_back no_fields = refl
  fields_back (field n d fs) = λ i. field (numbers_back n i) (dtype_back d i) (fields_back fs i)

-- ---- layouts

abbrev pub kind_to : LayoutKind → Gv
kind_to Flat = gnil
kind_to Chunked = gnum 0
kind_to Struct = gcons gnil gnil

abbrev pub kind_from : Gv → LayoutKind
kind_from gnil = Flat
kind_from (gnum n) = Chunked
kind_from (gcons a b) = Struct

kind_back : (k : LayoutKind) → kind_from (kind_to k) ≡ k
kind_back Flat = refl
kind_back Chunked = refl
kind_back Struct = refl

abbrev no_tree : LayoutTree
no_tree = node Flat (bool true) 0 [] no_layouts

abbrev mutual
  pub tree_to : LayoutTree → Gv
  tree_to (node k d n s ts) = gcons (kind_to k) (gcons (dtype_to d) (gcons (gnum n) (gcons (numbers_to s) (trees_to ts))))

  pub trees_to : Layouts → Gv
  trees_to no_layouts = gnil
  trees_to (a_layout t ts) = gcons (tree_to t) (trees_to ts)

abbrev mutual
  pub tree_from : Gv → LayoutTree
  tree_from gnil = no_tree
  tree_from (gnum a) = no_tree
  tree_from (gcons k gnil) = no_tree
  tree_from (gcons k (gnum a)) = no_tree
  tree_from (gcons k (gcons d gnil)) = no_tree
  tree_from (gcons k (gcons d (gnum a))) = no_tree
  tree_from (gcons k (gcons d (gcons n gnil))) = no_tree
  tree_from (gcons k (gcons d (gcons n (gnum a)))) = no_tree
  tree_from (gcons k (gcons d (gcons n (gcons s ts)))) = node (kind_from k) (dtype_from d) (number_from n) (numbers_from s) (trees_from ts)

  pub trees_from : Gv → Layouts
  trees_from gnil = no_layouts
  trees_from (gnum a) = no_layouts
  trees_from (gcons t ts) = a_layout (tree_from t) (trees_from ts)

mutual
  pub tree_back : (t : LayoutTree) → tree_from (tree_to t) ≡ t
  tree_back (node k d n s ts) = λ i. node (kind_back k i) (dtype_back d i) n (numbers_back s i) (trees_back ts i)

  pub trees_back : (ts : Layouts) → trees_from (trees_to ts) ≡ ts
  trees_back no_layouts = refl
  trees_back (a_layout t ts) = ap₂ a_layout (tree_back t) (trees_back ts)

abbrev pub tree_code : Coded LayoutTree
tree_code = code_by Gv coded_Gv tree_to tree_from tree_back
