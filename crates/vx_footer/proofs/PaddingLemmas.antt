-- Zeros up to a multiple.
use Rattle.std.proofs.Common.{◌≡◌, ℕ, zero, suc, ◌+◌, ◌-◌, ◌*◌, ◌/◌, ◌%◌, ◌^◌, ◌<◌, ◌≤◌, refl, ap, ◌∙◌, arith}
use Rattle.std.proofs.lemmas.Nat.{mod-mul-add, mod_below, pow_pos, div-add-mod'}
use Rattle.std.proofs.Math.Nat.{mod-eq_of_lt}
use Rattle.vx_footer.specs.Placing.{padding}

pub some : (e : ℕ) → 0 < 2 ^ e
some e = pow_pos e

pub few : (e n : ℕ) → 2 ^ e ≤ 65536 → padding e n < 65536
few e n low = omega (arith, low, mod_below (2 ^ e - n % 2 ^ e) (2 ^ e) (pow_pos e))

to_multiple : (n m r : ℕ) → 0 < m → n % m ≡ r → (n + (m - r) % m) % m ≡ 0
to_multiple n m zero positive e =
    let once : m - 0 ≡ 1 * m + 0 = omega arith in
    let none : (m - 0) % m ≡ 0 = ap (λ (x : ℕ). x % m) once ∙ mod-mul-add 1 m 0 positive in
    let same : n + (m - 0) % m ≡ n = omega (arith, none) in
    ap (λ (x : ℕ). x % m) same ∙ e
to_multiple n m (suc r) positive e =
    let below : suc r < m = omega (arith, e, mod_below n m positive) in
    let rest : (m - suc r) % m ≡ m - suc r = mod-eq_of_lt (omega (arith, below)) in
    let parts : n / m * m + n % m ≡ n = div-add-mod' n m in
    let more : (n / m + 1) * m ≡ n / m * m + m = omega arith in
    let whole : n + (m - suc r) % m ≡ (n / m + 1) * m + 0 = omega (arith, below, rest, parts, more, e) in
    ap (λ (x : ℕ). x % m) whole ∙ mod-mul-add (n / m + 1) m 0 positive

pub padded : (e n : ℕ) → (n + padding e n) % 2 ^ e ≡ 0
padded e n = to_multiple n (2 ^ e) (n % 2 ^ e) (pow_pos e) refl
