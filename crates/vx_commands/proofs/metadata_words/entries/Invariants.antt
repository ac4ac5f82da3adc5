use Rattle.std.proofs.Common.{◌≡◌, map, length}
use Rattle.std.specs.Prelude.{string_bytes}
use Rattle.vx_footer.specs.Serializing.{values_view}
use Rattle.vx_commands.specs.MetadataWords.{after_entries, entries_of}
use Rattle.vx_commands.proofs.metadata_words.entries.Given as goal

-- the entries so far stand before those of the words that are left
abbrev pub invariant-loop-word : goal.invariant-loop-word
invariant-loop-word l = after_entries (values_view l.entries.items) (entries_of l.shapes (map string_bytes l.rest)) ≡ entries_of l.shapes (map string_bytes l.words)

abbrev pub decreases-loop-word : goal.decreases-loop-word
decreases-loop-word l = length l.rest
