use Rattle.std.proofs.Common.{◌≡◌, ℕ, ◌+◌, ◌<◌, List, ◌∷◌, length, drop, get_or, refl, sym, subst, arith, add-one, drop-cons}
use Rattle.std.specs.Prelude.{String}
use Rattle.std.specs.Global.{Global}
use Rattle.vx_tables.proofs.Text.{string_is_utf8}
use Rattle.vx_data.specs.declared.dtype.DType.{DType}
use Rattle.vx_data.specs.Dtype.{dtype_view, pairs_view}
use Rattle.vx_data.specs.DtypeWritten.{HasTexts, HaveTexts}
use Rattle.vx_write.proofs.LayingTurns.{field_size}
use Rattle.vx_write.proofs.field_texts.+naming.Goals as goal

with_texts : (fs : List (String Global × DType)) (i : ℕ) (f : String Global × DType) → i < length fs → f ≡ get_or fs i f → HasTexts (dtype_view f.1) → HaveTexts (pairs_view (drop (i + 1) fs)) → HaveTexts (pairs_view (drop i fs))
with_texts fs i f lt is one rest =
    let next : drop i fs ≡ f ∷ drop (i + 1) fs = rw (add-one, drop-cons fs i f, ← is) refl in
    subst (λ xs. HaveTexts (pairs_view xs)) (sym next) (string_is_utf8 f.0, one, rest)

pub all_have_texts-loop-at-preserved : goal.all_have_texts-loop-at-preserved
all_have_texts-loop-at-preserved t c =
    let fs = c.args.fields.now in
    let at = c.loop-at.at in
    let f = c.index-fields-at.result in
    record {
      texts = λ rest. c.loop-at.invariant.texts (with_texts fs at f (omega arith) c.index-fields-at.is c.has_texts.ensures rest);
      size = omega (arith, field_size fs at f (omega arith) c.index-fields-at.is, c.loop-at.invariant.size);
    }
