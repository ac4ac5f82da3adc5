-- Keys are in the order of the integers that they stand for.
use Rattle.std.proofs.Common.{◌≡◌, ℤ, pos, Bool, true, false, cond, Option, Some, None, is_some, option_map, refl, ap, sym, ◌∙◌, arith}
use Rattle.std.specs.Prelude.{◌+ℤ◌, ◌^◌}
use Rattle.std.specs.declared.cmp.Ordering.{Ordering}
use Rattle.std.specs.declared.cmp.Ordering.TheVariants.{Less, Equal, Greater}
use Rattle.std.specs.Int.Signed.{◌<ℤ◌}
use Rattle.std.specs.Ordering.{int_cmp, is_lt, flip_args, MatchOrdering}
use Rattle.std.specs.Cmp.{int_cmp_is, int_ranks}
use Rattle.std.proofs.lemmas.Int.{ints}
use Rattle.vx_data.specs.declared.ptype.PType.{PType}
use Rattle.vx_data.specs.declared.ptype.PType.TheVariants.{U8, U16, U32, U64, I8, I16, I32, I64}
use Rattle.vx_rows.specs.Keys.{of_key}
use Rattle.vx_rows.specs.RowStats.{lesser_of, greater_of}

moved : (a b d : ℤ) → int_cmp (a +ℤ d) (b +ℤ d) ≡ int_cmp a b
moved a b d = sym (int_cmp_is (a +ℤ d) (b +ℤ d) (int_cmp a b) (by (int_cmp a b) (int_ranks a b)))
  where
    by : (r : Ordering) → MatchOrdering r (a <ℤ b) (a ≡ b) (b <ℤ a) → MatchOrdering r ((a +ℤ d) <ℤ (b +ℤ d)) (a +ℤ d ≡ b +ℤ d) ((b +ℤ d) <ℤ (a +ℤ d))
    by Less h = omega (arith, ints, h)
    by Equal h = ap (λ (x : ℤ). x +ℤ d) h
    by Greater h = omega (arith, ints, h)

pub keys_order : (p : PType) (a b : ℤ) → int_cmp (of_key p a) (of_key p b) ≡ int_cmp a b
keys_order U8 a b = refl
keys_order U16 a b = refl
keys_order U32 a b = refl
keys_order U64 a b = moved a b (pos (2 ^ 63))
keys_order I8 a b = refl
keys_order I16 a b = refl
keys_order I32 a b = refl
keys_order I64 a b = refl

-- the lesser of two keys stands for the lesser integer
same-choice : (f : ℤ → ℤ) (cmp : ℤ → ℤ → Ordering) → ((a b : ℤ) → cmp (f a) (f b) ≡ cmp a b) → (x y : Option ℤ)
    → option_map f (lesser_of cmp x y) ≡ lesser_of cmp (option_map f x) (option_map f y)
same-choice f cmp same None y = refl
same-choice f cmp same (Some a) None = refl
same-choice f cmp same (Some a) (Some b) = ap Some (chosen (is_lt (cmp b a)) ∙ ap (λ o. cond (is_lt o) (f b) (f a)) (sym (same b a)))
  where
    chosen : (t : Bool) → f (cond t b a) ≡ cond t (f b) (f a)
    chosen true = refl
    chosen false = refl

pub lesser_key : (p : PType) (x y : Option ℤ) → option_map (of_key p) (lesser_of int_cmp x y) ≡ lesser_of int_cmp (option_map (of_key p) x) (option_map (of_key p) y)
lesser_key p = same-choice (of_key p) int_cmp (keys_order p)

pub greater_key : (p : PType) (x y : Option ℤ) → option_map (of_key p) (greater_of int_cmp x y) ≡ greater_of int_cmp (option_map (of_key p) x) (option_map (of_key p) y)
greater_key p = same-choice (of_key p) (flip_args int_cmp) (λ a b. keys_order p b a)

pub still_some : (p : PType) (x : Option ℤ) → is_some (option_map (of_key p) x) ≡ is_some x
still_some p None = refl
still_some p (Some a) = refl
