-- Values of metadata, as the words of `write` spell them.
use Rattle.std.specs.Prelude.{ℕ, zero, suc, Bool, ◌&&◌, ◌||◌, ◌==◌, not, nat_le, if◌then◌else◌, List, [], ◌∷◌, ◌++◌, length, take, codes, Option, Some, None, Result, Ok, Err}
use Rattle.std.specs.List.{list_all}
use Rattle.std.specs.Str.{bytes_eq}
use Rattle.hex.specs.Hex.{decode_of}
use Rattle.hex.specs.declared.error.FromHexError.{FromHexError}
use Rattle.vx_base.specs.Buffer.{Buffer}
use Rattle.vx_data.specs.TextsRead.{unquoted}
use Rattle.vx_text.specs.Options.{OptionShape, value_count}

-- a key, and the bytes under it
abbrev pub Entry : Type 0
Entry = List ℕ × Buffer

-- no letter from A to F
abbrev pub is_lower : ℕ → Bool
is_lower c = not (nat_le 65 c && nat_le c 70)

abbrev pub decoded : Result (List ℕ) FromHexError → Option (List ℕ)
decoded (Ok bytes) = Some bytes
decoded (Err e) = None

-- `-` for no bytes, else at least one, each as two digits in lower case
abbrev pub bytes_in_hex : List ℕ → Option (List ℕ)
bytes_in_hex word =
    if bytes_eq word (codes "-") then Some []
    else if (length word == 0) || not (list_all is_lower word) then None
    else decoded (decode_of word)

abbrev pub entry_by : Option (List ℕ) → Option (List ℕ) → Option Entry
entry_by None bytes = None
entry_by (Some key) None = None
entry_by (Some key) (Some bytes) = Some (key, record { bytes = bytes; alignment = 0 })

-- a key, as quoted text, and bytes, in hexadecimal
abbrev pub entry_of : List (List ℕ) → Option Entry
entry_of [] = None
entry_of (key ∷ []) = None
entry_of (key ∷ bytes ∷ []) = entry_by (unquoted key) (bytes_in_hex bytes)
entry_of (key ∷ bytes ∷ word ∷ words) = None

abbrev pub with_entry : Option Entry → Option (List Entry) → Option (List Entry)
with_entry None es = None
with_entry (Some e) None = None
with_entry (Some e) (Some es) = Some (e ∷ es)

-- entries before those that other words spell
abbrev pub after_entries : List Entry → Option (List Entry) → Option (List Entry)
after_entries front None = None
after_entries front (Some es) = Some (front ++ es)

-- the entry of each option `--meta`, in order, where so many words are passed over before
abbrev pub entries_after : List OptionShape → ℕ → List (List ℕ) → Option (List Entry)
entries_after shapes passed [] = Some []
entries_after shapes (suc passed) (word ∷ words) = entries_after shapes passed words
entries_after shapes zero (word ∷ words) =
    if bytes_eq word (codes "--meta")
    then with_entry (entry_of (take (value_count shapes word words) words)) (entries_after shapes (value_count shapes word words) words)
    else entries_after shapes (value_count shapes word words) words

abbrev pub entries_of : List OptionShape → List (List ℕ) → Option (List Entry)
entries_of shapes words = entries_after shapes 0 words
