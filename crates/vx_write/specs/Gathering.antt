-- How the blocks of one column are gathered.
use Rattle.std.specs.Prelude.{ℕ, zero, suc, ◌+◌, ◌-◌, ◌/◌, ◌<◌, ◌≤◌, nat_le, if◌then◌else◌}
use Rattle.vx_rows.specs.Rows.{Rows, rows_len}
use Rattle.vx_rows.specs.Parts.{part, plain_size}
use Rattle.vx_write.specs.declared.gathering.Gathered.{Gathered}
use Rattle.vx_write.specs.declared.gathering.Gathered.TheVariants.{Full, Open}

-- where so many blocks from a row on fill a chunk that has gathered some bytes before, or how many bytes it has then
unfoldable pub gathered_from : ℕ → ℕ → Rows → ℕ → ℕ → ℕ → Gathered
gathered_from rows target c gathered at zero = Open gathered
gathered_from rows target c gathered at (suc blocks) =
    if nat_le target (gathered + plain_size (part at (at + rows) c))
    then Full (at + rows)
    else gathered_from rows target c (gathered + plain_size (part at (at + rows) c)) (at + rows) blocks

-- a chunk ends behind a row, and not behind another
abbrev pub EndsWithin : ℕ → ℕ → Gathered → Type 0
EndsWithin from to (Full place) = (from < place) × (place ≤ to)
EndsWithin from to (Open gathered) = Unit {0}

-- the same where rows before the column share a block with its first ones, which has a size and ends before a row
abbrev pub first_end : ℕ → ℕ → Rows → ℕ → ℕ → ℕ → Gathered
first_end rows target c gathered size from =
    if nat_le target (gathered + size) then Full from else gathered_from rows target c (gathered + size) from ((rows_len c - from) / rows)
