-- Opening a file whose footer may be kept.
use Rattle.std.specs.Prelude.{◌≡◌, ℕ, ◌<◌, ◌^◌, false, List, [], length, Option, Some, None, Ok}
use Rattle.vx_data.specs.Layout.{dtype_of}
use Rattle.vx_footer.specs.Footers.{FooterValue}
use Rattle.vx_footer.specs.Opening.{vx_grammar}
use Rattle.vx_file.specs.Hints.{Hints, IsSizeOf}
use Rattle.vx_file.specs.Plans.{plan_of}

-- by a footer that is kept, with its type of the rows
abbrev pub with_kept : Option FooterValue → Hints → Hints
with_kept None hints = hints
with_kept (Some footer) hints = record hints { dtype = Some (dtype_of footer.content.layout); footer = Some footer.content }

-- what is known of a file: what was chosen, its size, where that is given, and its footer, where that is kept
abbrev pub known_by : Option FooterValue → Option ℕ → Hints → Hints
known_by kept None hints = with_kept kept hints
known_by kept (Some size) hints = with_kept kept (record hints { size = Some size })

-- the key of a file: the one that is given, or else the name of its reader
abbrev pub key_of : Option (List ℕ) → Option (List ℕ) → Option (List ℕ)
key_of None uri = uri
key_of (Some key) uri = Some key

-- a footer that is the file's own opens it to the same footer, without a read; the size, where it is known, is the file's
abbrev pub OpensTheSame : Type 0
OpensTheSame = (hints : Hints) (file : List ℕ) (footer : FooterValue) → length file < 2 ^ 64 → IsSizeOf hints.size file
    → vx_grammar file hints.dtype ≡ Ok footer.content
    → plan_of (with_kept (Some footer) hints) file ≡ record { footer = vx_grammar file hints.dtype; asks_size = false; ranges = []; start = None }
