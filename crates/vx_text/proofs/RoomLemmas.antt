-- What is put into an array, behind the bytes at its front.
use Rattle.std.proofs.Common.{◌≡◌, ℕ, ◌+◌, ◌≤◌, List, ◌++◌, length, take, sym, ap, ◌∙◌, arith, append_assoc, length-take-le}
use Rattle.std.proofs.lemmas.Simd.{length-chunk, put_chunk_whole}
use Rattle.std.proofs.lemmas.Slice.{take-put_mid}
use borrow.Rule.Slice.PartMut.{put_mid, mid_of}
use lib.Lanes.{put_chunk}
use Rattle.vx_text.specs.Digits.{Puts}

pub vector-behind : (cells bytes : List ℕ) (len part : ℕ) → part ≡ 32 → length cells ≡ 32768 → len ≤ 32768 → length (take len cells) + 32 ≤ 32768 → length bytes ≡ 32
    → take (len + 32) (put_mid len part cells (put_chunk 0 (mid_of len part cells) bytes)) ≡ take len cells ++ bytes
vector-behind cells bytes len part is all few room long =
    let front : length (take len cells) ≡ len = length-take-le len cells (omega (arith, all, few)) in
    let middle : length (mid_of len part cells) ≡ part = length-chunk len part cells (omega (arith, all, front, room, is)) in
    let whole : put_chunk 0 (mid_of len part cells) bytes ≡ bytes = put_chunk_whole (mid_of len part cells) bytes (middle ∙ is ∙ sym long) in
    ap (λ b. take (len + 32) (put_mid len part cells b)) whole
    ∙ take-put_mid len part cells bytes (len + 32) (omega (arith, long)) (omega (arith, all, few))

pub puts_then : {a b cells cells1 cells2 : List ℕ} {end end1 end2 : ℕ} → Puts a end cells end1 cells1 → Puts b end1 cells1 end2 cells2 → Puts (a ++ b) end cells end2 cells2
puts_then {a} {b} {cells} {end = end} h k = record { text = k.text ∙ ap (λ t. t ++ b) h.text ∙ append_assoc (take end cells) a b }
