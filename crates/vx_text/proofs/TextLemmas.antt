-- How a text on its way to a sink grows.
use Rattle.std.proofs.Common.{◌≡◌, ℕ, suc, ◌+◌, ◌≤◌, true, List, [], ◌∷◌, ◌++◌, length, take, drop, Option, Some, None, Result, Ok, Err, refl, sym, ap, subst, ◌∙◌, arith, append_assoc}
use Rattle.std.specs.Prelude.{OnOk, is_some, false}
use Rattle.std.specs.Option.{option_map}
use Rattle.std.proofs.lemmas.List.{append-nil, take-append-drop}
use Rattle.vx_base.specs.Counts.{Rises}
use Rattle.vx_base.specs.Streams.{SinkState, SameSink, same_sink-then, Took, TookPrefix, WritesAll, RefusalCause}
use Rattle.vx_base.specs.declared.fault.SinkError.{SinkError}
use Rattle.vx_base.specs.declared.fault.SinkError.TheVariants as sink_error
use Rattle.vx_text.specs.Text.{TextState, Stands, Adds, Holds, Writes, Finishes, new_text}

pub adds_then : {a b : List ℕ} {w w1 w2 : TextState} {s s1 s2 : SinkState} → Adds a w s w1 s1 → Adds b w1 s1 w2 s2 → Adds (a ++ b) w s w2 s2
adds_then {a = a} {b = b} {w2 = w2} {s2 = s2} h k = record {
  each = λ start text st. subst (λ t. Stands start t w2 s2) (append_assoc text a b) (k.each start (text ++ a) (h.each start text st));
}

pub adds_nothing : (w : TextState) (s : SinkState) → Adds [] w s w s
adds_nothing w s = record { each = λ start text st. subst (λ t. Stands start t w s) (sym (append-nil text)) st }

none-of : {A : Type 0} (o : Option A) → is_some o ≡ false → o ≡ None
none-of None h = refl
none-of (Some x) h = absurd cc

some-of : {A : Type 0} (o : Option A) → is_some o ≡ true → (x : A) × (o ≡ Some x)
some-of None h = absurd cc
some-of (Some x) h = (x, refl)

-- ---- the buffer

pub adds_held : (bytes : List ℕ) (w w1 : TextState) (s : SinkState) → w1.held ≡ w.held ++ bytes → w1.failure ≡ w.failure → Adds bytes w s w1 s
adds_held bytes w w1 s held failure = record {
  each = λ start text st. record {
    sent = st.sent;
    rest = st.rest ++ bytes;
    text_is = ap (λ t. t ++ bytes) st.text_is ∙ append_assoc st.sent st.rest bytes;
    took = st.took;
    going = λ none. ap (λ r. r ++ bytes) (st.going (sym failure ∙ none)) ∙ sym held;
    failed = λ e. st.failed (sym failure ∙ e);
    memory = λ e. st.memory (sym failure ∙ e);
    sound = λ never e. st.sound never (sym failure ∙ e);
    steady = st.steady;
    same = st.same;
  };
}

pub adds_later : (bytes : List ℕ) (w w1 w2 : TextState) (s s1 : SinkState) → Adds [] w s w1 s1 → w2.held ≡ w1.held ++ bytes → w2.failure ≡ w1.failure → Adds bytes w s w2 s1
adds_later bytes w w1 w2 s s1 h held failure = adds_then h (adds_held bytes w1 w2 s1 held failure)

pub holds_then : {a b : List ℕ} {w w1 w2 : TextState} → Holds a w w1 → Holds b w1 w2 → Holds (a ++ b) w w2
holds_then {a} {b} {w} h k = record {
  held = k.held ∙ ap (λ t. t ++ b) h.held ∙ append_assoc w.held a b;
  failure = k.failure ∙ h.failure;
}

pub adds_holds : {bytes : List ℕ} {w w1 : TextState} {s : SinkState} → Holds bytes w w1 → Adds bytes w s w1 s
adds_holds {bytes} {w} {w1} {s} h = adds_held bytes w w1 s h.held h.failure

pub adds_after : {bytes : List ℕ} {w w1 w2 : TextState} {s s1 s2 : SinkState} → Adds [] w s w1 s1 → Adds bytes w1 s1 w2 s2 → Adds bytes w s w2 s2
adds_after h k = adds_then h k

pub adds_put : {bytes : List ℕ} {w w1 w2 : TextState} {s s1 : SinkState} → Adds [] w s w1 s1 → Holds bytes w1 w2 → Adds bytes w s w2 s1
adds_put {bytes} {w} {w1} {w2} {s} {s1} h k = adds_later bytes w w1 w2 s s1 h k.held k.failure

-- behind a refused write the buffer does not matter
pub adds_broken : (bytes : List ℕ) (e : SinkError) (w w1 : TextState) (s : SinkState) → w.failure ≡ Some e → w1.failure ≡ w.failure → Adds bytes w s w1 s
adds_broken bytes e w w1 s broken failure = record {
  each = λ start text st. record {
    sent = st.sent;
    rest = st.rest ++ bytes;
    text_is = ap (λ t. t ++ bytes) st.text_is ∙ append_assoc st.sent st.rest bytes;
    took = st.took;
    going = λ none. absurd (let clash : Some e ≡ None = sym broken ∙ sym failure ∙ none in cc);
    failed = λ f. st.failed (sym failure ∙ f);
    memory = λ f. st.memory (sym failure ∙ f);
    sound = λ never f. st.sound never (sym failure ∙ f);
    steady = st.steady;
    same = st.same;
  };
}

pub adds_stopped : (bytes : List ℕ) (w w1 : TextState) (s : SinkState) → is_some w.failure ≡ true → w1.failure ≡ w.failure → Adds bytes w s w1 s
adds_stopped bytes w w1 s stopped failure = let e = some-of w.failure stopped in adds_broken bytes e.0 w w1 s e.1 failure

-- what was held was taken out of the buffer and passed on
pub adds_taken : (held : List ℕ) (w w0 w1 : TextState) (s s1 : SinkState) → is_some w.failure ≡ false → held ≡ w.held → w0.held ≡ [] → w0.failure ≡ w.failure → Adds held w0 s w1 s1 → Adds [] w s w1 s1
adds_taken held w w0 w1 s s1 going_on is empty kept h = let none = none-of w.failure going_on in let going = kept ∙ none in record {
  each = λ start text st.
      let front : Stands start st.sent w0 s = record {
        sent = st.sent;
        rest = [];
        text_is = sym (append-nil st.sent);
        took = st.took;
        going = λ _. sym empty;
        failed = λ f. absurd (let clash : Some sink_error.Failed ≡ None = sym f ∙ going in cc);
        memory = λ f. absurd (let clash : Some sink_error.OutOfMemory ≡ None = sym f ∙ going in cc);
        sound = λ never f. absurd (let clash : Some sink_error.Failed ≡ None = sym f ∙ going in cc);
        steady = st.steady;
        same = st.same;
      } in
      let whole : st.sent ++ held ≡ text ++ [] = ap (λ r. st.sent ++ r) (is ∙ sym (st.going none)) ∙ sym st.text_is ∙ sym (append-nil text) in
      subst (λ t. Stands start t w1 s1) whole (h.each start st.sent front);
}

-- ---- the sink

rises-behind : (start before now : ℕ) → start ≤ before → Rises 1 before now → Rises 1 start now
rises-behind start before now later h = record { later = omega (arith, later, h.later); risen = omega (arith, later, h.risen) }

took-then : (a b : List ℕ) (start before now : Option (List ℕ)) → Took a start before → Took b before now → Took (a ++ b) start now
took-then a b None before now h k = k ∙ ap (λ g. option_map (λ x. x ++ b) g) h
took-then a b (Some g) before now h k = k ∙ ap (λ o. option_map (λ x. x ++ b) o) h ∙ ap Some (append_assoc g a b)

pub passes_ok : (bytes : List ℕ) (w w1 : TextState) (s s1 : SinkState) → w.held ≡ [] → is_some w.failure ≡ false → w1 ≡ w → WritesAll bytes s s1 (Ok tt) → SameSink s s1 → Adds bytes w s w1 s1
passes_ok bytes w w1 s s1 empty going_on is h same = let going = none-of w.failure going_on in rw is (record {
  each = λ start text st.
      let nothing : st.rest ≡ [] = st.going going ∙ empty in
      let whole : text ≡ st.sent = st.text_is ∙ ap (λ r. st.sent ++ r) nothing ∙ append-nil st.sent in
      record {
        sent = st.sent ++ bytes;
        rest = [];
        text_is = ap (λ t. t ++ bytes) whole ∙ sym (append-nil (st.sent ++ bytes));
        took = took-then st.sent bytes start.gained s.gained s1.gained st.took h.took;
        going = λ _. sym empty;
        failed = λ f. absurd (let clash : Some sink_error.Failed ≡ None = sym f ∙ going in cc);
        memory = λ f. absurd (let clash : Some sink_error.OutOfMemory ≡ None = sym f ∙ going in cc);
        sound = λ never f. absurd (let clash : Some sink_error.Failed ≡ None = sym f ∙ going in cc);
        steady = λ never. (h.refused.sound (st.same.never_fails ∙ never)).1 ∙ st.steady never;
        same = same_sink-then start s s1 st.same same;
      };
})

error-is : (e f : SinkError) (o : Option SinkError) → o ≡ Some e → o ≡ Some f → e ≡ f
error-is e f o h k = let clash : Some e ≡ Some f = sym h ∙ k in cc

pub passes_err : (bytes : List ℕ) (e : SinkError) (w w1 : TextState) (s s1 : SinkState) → w.held ≡ [] → is_some w.failure ≡ false → w1.failure ≡ Some e → WritesAll bytes s s1 (Err e) → SameSink s s1 → Adds bytes w s w1 s1
passes_err bytes e w w1 s s1 empty going_on broken h same = let going = none-of w.failure going_on in record {
  each = λ start text st.
      let nothing : st.rest ≡ [] = st.going going ∙ empty in
      let whole : text ≡ st.sent = st.text_is ∙ ap (λ r. st.sent ++ r) nothing ∙ append-nil st.sent in
      let n = h.prefix.count in
      let split : st.sent ++ bytes ≡ (st.sent ++ take n bytes) ++ drop n bytes = ap (λ b. st.sent ++ b) (sym (take-append-drop n bytes)) ∙ sym (append_assoc st.sent (take n bytes) (drop n bytes)) in
      record {
        sent = st.sent ++ take n bytes;
        rest = drop n bytes;
        text_is = ap (λ t. t ++ bytes) whole ∙ split;
        took = took-then st.sent (take n bytes) start.gained s.gained s1.gained st.took h.prefix.took;
        going = λ none. absurd (let clash : Some e ≡ None = sym broken ∙ none in cc);
        failed = λ f. rises-behind start.faults s.faults s1.faults st.same.never_falls (h.refused.failed (ap Err (error-is e sink_error.Failed w1.failure broken f)));
        memory = λ f. rises-behind start.memory_faults s.memory_faults s1.memory_faults st.same.memory_never_falls (h.refused.memory (ap Err (error-is e sink_error.OutOfMemory w1.failure broken f)));
        sound = λ never f. (h.refused.sound (st.same.never_fails ∙ never)).0 (ap Err (error-is e sink_error.Failed w1.failure broken f));
        steady = λ never. (h.refused.sound (st.same.never_fails ∙ never)).1 ∙ st.steady never;
        same = same_sink-then start s s1 st.same same;
      };
}

-- ---- the end

took-none : (o : Option (List ℕ)) → Took [] o o
took-none None = refl
took-none (Some g) = ap Some (sym (append-nil g))

pub begins : (s : SinkState) → Stands s [] new_text s
begins s = record {
  sent = [];
  rest = [];
  text_is = refl;
  took = took-none s.gained;
  going = λ _. refl;
  failed = λ f. absurd cc;
  memory = λ f. absurd cc;
  sound = λ never f. cc;
  steady = λ _. refl;
  same = record { never_fails = refl; never_falls = omega arith; memory_never_falls = omega arith };
}

take-front : (xs ys : List ℕ) (n : ℕ) → take (n + length xs) (xs ++ ys) ≡ xs ++ take n ys
take-front [] ys n = ap (λ k. take k ys) (let e : n + length {A = ℕ} [] ≡ n = omega arith in e)
take-front (x ∷ xs) ys n = ap (λ k. take k (x ∷ xs ++ ys)) (let e : n + length (x ∷ xs) ≡ suc (n + length xs) = omega arith in e) ∙ ap (λ r. x ∷ r) (take-front xs ys n)

-- a sent front, and some of what came behind it
front-prefix : (sent rest text : List ℕ) (n : ℕ) (start now : Option (List ℕ)) → text ≡ sent ++ rest → Took (sent ++ take n rest) start now → TookPrefix text start now
front-prefix sent rest text n start now is took = record {
  count = n + length sent;
  took = subst (λ t. Took t start now) (sym (ap (λ t. take (n + length sent) t) is ∙ take-front sent rest n)) took;
}

left-prefix : (start : SinkState) (text : List ℕ) (w : TextState) (s : SinkState) → Stands start text w s → TookPrefix text start.gained s.gained
left-prefix start text w s st = front-prefix st.sent st.rest text 0 start.gained s.gained st.text_is (subst (λ t. Took t start.gained s.gained) (sym (append-nil st.sent)) st.took)

still-refused : (start : SinkState) (text : List ℕ) (e : SinkError) (w : TextState) (s : SinkState) → w.failure ≡ Some e → Stands start text w s → RefusalCause {A = Unit {0}} start s (Err e)
still-refused start text sink_error.Failed w s broken st = record { failed = λ _. st.failed broken; memory = λ e. absurd cc; sound = λ never. (λ _. st.sound never broken, st.steady never) }
still-refused start text sink_error.OutOfMemory w s broken st = record { failed = λ e. absurd cc; memory = λ _. st.memory broken; sound = λ never. (λ e. cc, st.steady never) }

pub ends_broken : (e : SinkError) (w : TextState) (s : SinkState) → w.failure ≡ Some e → Finishes w s s (Err e)
ends_broken e w s broken = record {
  each = λ start text st. record {
    written = record { took = tt; prefix = left-prefix start text w s st; refused = still-refused start text e w s broken st };
    flushed = tt;
    same = st.same;
  };
}

later-refused : {A : Type 0} (start s s1 : SinkState) (result : Result A SinkError) → SameSink start s → (start.never_fails ≡ true → s.faults ≡ start.faults) → RefusalCause s s1 result → RefusalCause start s1 result
later-refused start s s1 result same steady h = record {
  failed = λ e. rises-behind start.faults s.faults s1.faults same.never_falls (h.failed e);
  memory = λ e. rises-behind start.memory_faults s.memory_faults s1.memory_faults same.memory_never_falls (h.memory e);
  sound = λ never. let k = h.sound (same.never_fails ∙ never) in (k.0, k.1 ∙ steady never);
}

pub ends_with : (held : List ℕ) (w : TextState) (s s1 : SinkState) (result : Result (Unit {0}) SinkError) → held ≡ w.held → w.failure ≡ None → WritesAll held s s1 result → OnOk result (s1.is_flushed ≡ true) → SameSink s s1 → Finishes w s s1 result
ends_with held w s s1 (Ok u) is going h flushed same = record {
  each = λ start text st.
      let whole : st.sent ++ held ≡ text = ap (λ r. st.sent ++ r) (is ∙ sym (st.going going)) ∙ sym st.text_is in
      record {
        written = record {
          took = subst (λ t. Took t start.gained s1.gained) whole (took-then st.sent held start.gained s.gained s1.gained st.took h.took);
          prefix = tt;
          refused = later-refused start s s1 (Ok u) st.same st.steady h.refused;
        };
        flushed = flushed;
        same = same_sink-then start s s1 st.same same;
      };
}
ends_with held w s s1 (Err e) is going h flushed same = record {
  each = λ start text st.
      let whole : text ≡ st.sent ++ held = st.text_is ∙ ap (λ r. st.sent ++ r) (st.going going ∙ sym is) in
      record {
        written = record {
          took = tt;
          prefix = front-prefix st.sent held text h.prefix.count start.gained s1.gained whole
              (took-then st.sent (take h.prefix.count held) start.gained s.gained s1.gained st.took h.prefix.took);
          refused = later-refused start s s1 (Err e) st.same st.steady h.refused;
        };
        flushed = tt;
        same = same_sink-then start s s1 st.same same;
      };
}

pub writes : (text : List ℕ) (w : TextState) (before s now : SinkState) (result : Result (Unit {0}) SinkError) → Adds text new_text before w s → Finishes w s now result → Writes text before now result
writes text w before s now result h k = k.each before text (h.each before [] (begins before))

pub adds_here : {bytes : List ℕ} {w w1 w2 : TextState} {s s2 : SinkState} → w ≡ w1 → Adds bytes w s w2 s2 → Adds bytes w1 s w2 s2
adds_here {bytes = bytes} {w2 = w2} {s = s} {s2 = s2} is h = subst (λ x. Adds bytes x s w2 s2) is h
