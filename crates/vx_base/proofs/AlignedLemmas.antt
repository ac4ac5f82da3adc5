-- What is left after the remainder is taken away.
use Rattle.std.proofs.Common.{◌≡◌, ℕ, ◌-◌, ◌*◌, ◌/◌, ◌%◌, arith}
use Rattle.std.proofs.Math.Nat.{mul-mod_right, div-add-mod}

-- a number without its remainder is a multiple
pub without_remainder : (n k : ℕ) → (n - n % k) % k ≡ 0
without_remainder n k =
    let e : n - n % k ≡ k * (n / k) = omega (arith, div-add-mod n k) in
    rw e (mul-mod_right k (n / k))
