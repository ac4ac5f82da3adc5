use Rattle.std.proofs.Common.{◌≡◌, ◌+◌, ◌-◌, ◌*◌, length}
use Rattle.vx_data.specs.TextsRead.{fields_in, dtype_in}
use Rattle.vx_data.proofs.ParsedFields.{fields_before}
use Rattle.vx_data.proofs.dtype_parsing.+parsing.Given as goal

abbrev pub decreases-read_fields : goal.decreases-read_fields
decreases-read_fields l = 3 * l.levels + 1

abbrev pub decreases-read_struct : goal.decreases-read_struct
decreases-read_struct l = 3 * l.levels + 2

abbrev pub decreases-read_dtype : goal.decreases-read_dtype
decreases-read_dtype l = 3 * l.levels

-- the fields so far and those still to come
abbrev pub invariant-read_fields-loop-field : goal.invariant-read_fields-loop-field
invariant-read_fields-loop-field l =
    fields_before l.fields.items (fields_in (dtype_in l.levels) (length l.text - l._field) l.rest) ≡ fields_in (dtype_in l.levels) (length l.text) l.text
