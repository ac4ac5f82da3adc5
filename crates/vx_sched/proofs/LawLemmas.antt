-- The scheduling law.
use Rattle.std.proofs.Common.{◌≡◌, ℕ, suc, ◌+◌, ◌-◌, ◌*◌, ◌%◌, ◌^◌, ◌<◌, ◌≤◌, max, List, [], ◌∷◌, length, Option, Some, ap, sym, subst, arith}
use Rattle.std.proofs.lemmas.Nat.{pow_pos}
use Rattle.std.proofs.Math.Nat.{mod-lt, suc-mul}
use Rattle.vx_base.specs.Aligned.{align_down}
use Rattle.vx_sched.specs.Span.{Span, end_of}
use Rattle.vx_sched.specs.Merging.{Merges, GapsAfter, HasNoWideGap, span_of}
use Rattle.vx_sched.specs.Law.{uncovered, uncovered_after}
use Rattle.vx_sched.specs.declared.request.ReadRequest.{ReadRequest}

-- ---- the bytes of a span that no read covers

gaps-uncovered : (d reach : ℕ) (reads : List ReadRequest) → GapsAfter d reach reads → uncovered_after reach reads ≤ length reads * d
gaps-uncovered d reach [] g = omega arith
gaps-uncovered d reach (r ∷ rest) g =
    let step = gaps-uncovered d (max reach (end_of r)) rest g.1 in
    let near = g.0 in
    let product = suc-mul (length rest) d in
    omega (arith, product)

down-near : (k n : ℕ) → 0 < k → n - (n - n % k) ≤ k - 1
down-near k n pos = omega (arith, mod-lt n pos)

uncovered-range : (distance alignment : ℕ) (reads : List ReadRequest) → HasNoWideGap distance reads
    → uncovered (span_of (Some distance) alignment reads) ≤ (length reads - 1) * distance + (2 ^ alignment - 1)
uncovered-range distance alignment [] g = omega arith
uncovered-range distance alignment (r ∷ rest) g =
    let reach : max (align_down alignment r.offset) (end_of r) ≡ end_of r = omega arith in
    let gaps = gaps-uncovered distance (end_of r) rest g in
    let near = down-near (2 ^ alignment) r.offset (pow_pos alignment) in
    let less : suc (length rest) - 1 ≡ length rest = omega arith in
    rw (reach, less) (omega (arith, gaps, near))

pub uncovered-merges : (distance : ℕ) (limit : Option ℕ) (alignment next : ℕ) (waiting : ℕ → Option ReadRequest) (span : Span) → Merges (Some distance) limit alignment waiting next span
    → uncovered span ≤ (length span.reads - 1) * distance + (2 ^ alignment - 1)
uncovered-merges distance limit alignment next waiting span m =
    subst (λ (n : ℕ). n ≤ (length span.reads - 1) * distance + (2 ^ alignment - 1)) (sym (ap uncovered m.range)) (uncovered-range distance alignment span.reads m.gathers.gaps)
