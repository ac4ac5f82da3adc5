-- What is known of a file before it is opened, and how much of it is read first.
use Rattle.std.specs.Prelude.{◌≡◌, ℕ, max, Bool, false, List, length, Option, Some, None, Ok, ◌⊎◌}
use Rattle.vx_data.specs.Dtype.{Dtype}
use Rattle.vx_data.specs.Layout.{dtype_of}
use Rattle.vx_footer.specs.Footers.{FooterContent}
use Rattle.vx_footer.specs.Opening.{vx_grammar}
use Rattle.vx_file.specs.declared.options.TheConstants.{LEAST_READ}

-- the size, the type of the rows and the footer, where they are supplied; how many bytes the first read is to ask for; and
-- whether the values of the metadata are to be loaded
pub record Hints : Type 0 where
  pub size : Option ℕ
  pub initial : ℕ
  pub dtype : Option Dtype
  pub footer : Option FooterContent
  pub metadata : Bool

abbrev pub no_hints : Hints
no_hints = record { size = None; initial = 0; dtype = None; footer = None; metadata = false }

-- how many bytes the first read asks for, or the whole file where it is shorter: never fewer than 65,535
abbrev pub first_length : Hints → ℕ
first_length hints = max hints.initial LEAST_READ

-- ---- hints that are true

-- a size that is supplied is the file's
abbrev pub IsSizeOf : Option ℕ → List ℕ → Type 0
IsSizeOf None file = Unit {0}
IsSizeOf (Some size) file = size ≡ length file

-- a size beside a footer only bounds the ends of segments
abbrev pub IsSizeBeside : Option FooterContent → Option ℕ → List ℕ → Type 0
IsSizeBeside None size file = IsSizeOf size file
IsSizeBeside (Some footer) size file = Unit {0}

-- a size by which a tail is read is the file's
abbrev pub IsSized : Hints → List ℕ → Type 0
IsSized hints file = IsSizeBeside hints.footer hints.size file

-- a footer that is supplied is the file's, by the type that its layout has
abbrev pub IsFooterOf : Option FooterContent → List ℕ → Type 0
IsFooterOf None file = Unit {0}
IsFooterOf (Some footer) file = vx_grammar file (Some (dtype_of footer.layout)) ≡ Ok footer

-- the segments of a footer that is supplied end within the file: it is the file's, or the supplied size is
abbrev pub IsBounded : Hints → List ℕ → Type 0
IsBounded hints file = IsFooterOf hints.footer file ⊎ (hints.size ≡ Some (length file))
