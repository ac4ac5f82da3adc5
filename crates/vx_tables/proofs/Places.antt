-- Parts of what stands at a place.
use Rattle.std.proofs.Common.{◌≡◌, ℕ, zero, suc, ◌+◌, ◌-◌, ◌≤◌, ◌<◌, ◌^◌, true, List, ◌++◌, length, take, drop, Some, refl, sym, ap, subst, ◌∙◌, append_assoc, arith, length-append}
use Rattle.std.specs.Prelude.{nat_le}
use Rattle.std.specs.Int.{Width, w8, w16, w32, w64, byte_len, bytes_low_first, to_le_bytes, from_le_bytes}
use Rattle.std.proofs.lemmas.Bool.{le-leb}
use Rattle.std.proofs.lemmas.List.{take_at, drop_at}
use Rattle.std.proofs.lemmas.Nat.{from_le_bytes-to_le_bytes_2, from_le_bytes-to_le_bytes_4, from_le_bytes-to_le_bytes_8}
use Rattle.vx_tables.specs.Field.{bytes, num}
use Rattle.vx_tables.specs.Standing.{IsAt}

pub at_left : (b : List ℕ) (at : ℕ) (x y : List ℕ) → IsAt b at (x ++ y) → IsAt b at x
at_left b at x y h = record { front = h.front; rest = y ++ h.rest; parts = h.parts ∙ ap (λ (z : List ℕ). h.front ++ z) (append_assoc x y h.rest); place = h.place }

pub at_right : (b : List ℕ) (at : ℕ) (x y : List ℕ) → IsAt b at (x ++ y) → IsAt b (at + length x) y
at_right b at x y h = record {
  front = h.front ++ x;
  rest = h.rest;
  parts = h.parts ∙ ap (λ (z : List ℕ). h.front ++ z) (append_assoc x y h.rest) ∙ sym (append_assoc h.front x (y ++ h.rest));
  place = length-append h.front x ∙ ap (λ (n : ℕ). n + length x) h.place;
}

-- the same, at a place that is only equal
pub at_move : (b : List ℕ) (at to : ℕ) (x : List ℕ) → at ≡ to → IsAt b at x → IsAt b to x
at_move b at to x e h = subst (λ (n : ℕ). IsAt b n x) e h

pub at_same : (b : List ℕ) (at : ℕ) (x y : List ℕ) → x ≡ y → IsAt b at x → IsAt b at y
at_same b at x y e h = subst (λ (z : List ℕ). IsAt b at z) e h

pub at_inside : (b : List ℕ) (at : ℕ) (x : List ℕ) → IsAt b at x → at + length x ≤ length b
at_inside b at x h =
    let len : length b ≡ length h.front + length (x ++ h.rest) = ap length h.parts ∙ length-append h.front (x ++ h.rest) in
    omega (arith, len, length-append x h.rest, h.place)

pub at_drop : (b : List ℕ) (at : ℕ) (x : List ℕ) → IsAt b at x → (n : ℕ) → n ≡ length x → take n (drop at b) ≡ x
at_drop b at x h n e =
    ap (λ (z : List ℕ). take n (drop at z)) h.parts
    ∙ ap (take n) (drop_at h.front (x ++ h.rest) at h.place)
    ∙ take_at x h.rest n (sym e)

pub bytes_back : (b : List ℕ) (at : ℕ) (x : List ℕ) → IsAt b at x → (n : ℕ) → n ≡ length x → bytes b at n ≡ Some x
unfolding bytes
bytes_back b at x h n e =
    let long : nat_le n (length b - at) ≡ true = le-leb _ _ (omega (arith, at_inside b at x h, e)) in
    rw long (ap (λ z. Some z) (at_drop b at x h n e))

-- a number of this width is read as it was written
abbrev pub Holds : Width → ℕ → Type 0
Holds w n = from_le_bytes w (to_le_bytes w n) ≡ n

pub holds_8 : (n : ℕ) → n < 256 → Holds w8 n
holds_8 n lt = omega arith

pub holds_16 : (n : ℕ) → n < 2 ^ 16 → Holds w16 n
holds_16 n lt = from_le_bytes-to_le_bytes_2 n lt

pub holds_32 : (n : ℕ) → n < 2 ^ 32 → Holds w32 n
holds_32 n lt = from_le_bytes-to_le_bytes_4 n lt

pub holds_64 : (n : ℕ) → n < 2 ^ 64 → Holds w64 n
holds_64 n lt = from_le_bytes-to_le_bytes_8 n lt

length-low_first : (i k n : ℕ) → k ≡ length (bytes_low_first i k n)
length-low_first i zero n = refl
length-low_first i (suc k) n = let rest = length-low_first (suc i) k n in omega arith

pub length-written : (w : Width) (n : ℕ) → byte_len w ≡ length (to_le_bytes w n)
length-written w n = length-low_first 0 (byte_len w) n

pub num_back : (w : Width) (b : List ℕ) (at n : ℕ) → IsAt b at (to_le_bytes w n) → Holds w n → num w b at ≡ Some n
unfolding num
num_back w b at n h holds = rw (bytes_back b at (to_le_bytes w n) h (byte_len w) (length-written w n)) (ap (λ m. Some m) holds)
