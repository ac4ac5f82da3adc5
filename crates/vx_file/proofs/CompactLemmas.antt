-- Scripts and replies that are kept in few bytes.
use Rattle.std.proofs.Common.{◌≡◌, ℕ, ◌+◌, ◌≤◌, List, [], ◌∷◌, ◌++◌, length, take, drop, refl, sym, ap, subst, ◌∙◌, arith, length-drop}
use Rattle.std.proofs.lemmas.List.{append-nil, take-append-le, drop-append-le}
use Rattle.std.proofs.Math.Seq.{take-length}
use Rattle.vx_source.specs.declared.reply.Reply.{Reply}
use Rattle.vx_file.specs.declared.replies.ReplyKind.{ReplyKind}
use Rattle.vx_file.specs.declared.replies.ReplyKind.TheVariants.{Registered, Held, MissingSegment, Pending, Dropped, NotLive, Idle, Whole}
use Rattle.vx_file.specs.declared.script.StepKind.{StepKind}
use Rattle.vx_file.specs.CompactReplies.{whole_count, registered_count, reply_by, replies_by, whole_in, registered_in, Keeps}
use Rattle.vx_file.specs.CompactScript.{number_count, step_by, steps_by, numbers_of_kinds}

-- ---- lists of parts

-- a front as long as is asked, and what is behind it
all-taken : {A : Type 0} (n : ℕ) (xs : List A) → n ≡ length xs → take n xs ≡ xs
all-taken n xs e = ap (λ m. take m xs) e ∙ take-length xs

empty : {A : Type 0} (xs : List A) → 0 ≡ length xs → xs ≡ []
empty [] e = refl
empty (x ∷ xs) e = let no : ⊥ = omega (arith, e) in absurd no

-- ---- scripts

pub steps-length : (kinds : List StepKind) (numbers : List ℕ) → length (steps_by kinds numbers) ≡ length kinds
steps-length [] numbers = refl
steps-length (kind ∷ kinds) numbers = let e = steps-length kinds (drop (number_count kind) numbers) in omega (arith, e)

pub numbers-pushed : (kinds : List StepKind) (kind : StepKind) → numbers_of_kinds (kinds ++ kind ∷ []) ≡ numbers_of_kinds kinds + number_count kind
numbers-pushed [] kind = omega arith
numbers-pushed (k ∷ kinds) kind = let e = numbers-pushed kinds kind in omega (arith, e)

pub steps-pushed : (kinds : List StepKind) (numbers more : List ℕ) (kind : StepKind) → numbers_of_kinds kinds ≡ length numbers → number_count kind ≡ length more
    → steps_by (kinds ++ kind ∷ []) (numbers ++ more) ≡ steps_by kinds numbers ++ step_by kind more ∷ []
steps-pushed [] numbers more kind e f =
    ap (λ (l : List ℕ). step_by kind (take (number_count kind) (l ++ more)) ∷ []) (empty numbers e) ∙ ap (λ l. step_by kind l ∷ []) (all-taken (number_count kind) more f)
steps-pushed (k ∷ kinds) numbers more kind e f =
    let n = number_count k in
    let within : n ≤ length numbers = omega (arith, e) in
    let rest : numbers_of_kinds kinds ≡ length (drop n numbers) = let long = length-drop n numbers in omega (arith, e, long) in
    ap (λ l. step_by k l ∷ steps_by (kinds ++ kind ∷ []) (drop n (numbers ++ more))) (take-append-le n numbers more within)
    ∙ ap (λ l. step_by k (take n numbers) ∷ steps_by (kinds ++ kind ∷ []) l) (drop-append-le n numbers more within)
    ∙ ap (λ l. step_by k (take n numbers) ∷ l) (steps-pushed kinds (drop n numbers) more kind rest f)

-- ---- replies

pub replies-length : (number : ℕ) (kinds : List ReplyKind) (whole : List Reply) → length (replies_by number kinds whole) ≡ length kinds
replies-length number [] whole = refl
replies-length number (kind ∷ kinds) whole = let e = replies-length (number + registered_count kind) kinds (drop (whole_count kind) whole) in omega (arith, e)

pub whole-pushed : (kinds : List ReplyKind) (kind : ReplyKind) → whole_in (kinds ++ kind ∷ []) ≡ whole_in kinds + whole_count kind
whole-pushed [] kind = omega arith
whole-pushed (k ∷ kinds) kind = let e = whole-pushed kinds kind in omega (arith, e)

pub registered-pushed : (kinds : List ReplyKind) (kind : ReplyKind) → registered_in (kinds ++ kind ∷ []) ≡ registered_in kinds + registered_count kind
registered-pushed [] kind = omega arith
registered-pushed (k ∷ kinds) kind = let e = registered-pushed kinds kind in omega (arith, e)

one-each : (kind : ReplyKind) → registered_count kind ≤ 1
one-each Registered = omega arith
one-each Held = omega arith
one-each MissingSegment = omega arith
one-each Pending = omega arith
one-each Dropped = omega arith
one-each NotLive = omega arith
one-each Idle = omega arith
one-each Whole = omega arith

-- no more register than there are replies
pub registered-most : (kinds : List ReplyKind) → registered_in kinds ≤ length kinds
registered-most [] = omega arith
registered-most (kind ∷ kinds) = let one = one-each kind in let e = registered-most kinds in omega (arith, one, e)

replies-pushed : (number : ℕ) (kinds : List ReplyKind) (whole more : List Reply) (kind : ReplyKind) → whole_in kinds ≡ length whole → whole_count kind ≡ length more
    → replies_by number (kinds ++ kind ∷ []) (whole ++ more) ≡ replies_by number kinds whole ++ reply_by kind (number + registered_in kinds) more ∷ []
replies-pushed number [] whole more kind e f =
    ap (λ (l : List Reply). reply_by kind number (take (whole_count kind) (l ++ more)) ∷ []) (empty whole e)
    ∙ ap (λ l. reply_by kind number l ∷ []) (all-taken (whole_count kind) more f)
    ∙ ap (λ m. reply_by kind m more ∷ []) (omega arith)
replies-pushed number (k ∷ kinds) whole more kind e f =
    let n = whole_count k in
    let within : n ≤ length whole = omega (arith, e) in
    let rest : whole_in kinds ≡ length (drop n whole) = let long = length-drop n whole in omega (arith, e, long) in
    let next = number + registered_count k in
    ap (λ l. reply_by k number l ∷ replies_by next (kinds ++ kind ∷ []) (drop n (whole ++ more))) (take-append-le n whole more within)
    ∙ ap (λ l. reply_by k number (take n whole) ∷ replies_by next (kinds ++ kind ∷ []) l) (drop-append-le n whole more within)
    ∙ ap (λ l. reply_by k number (take n whole) ∷ l) (replies-pushed next kinds (drop n whole) more kind rest f)
    ∙ ap (λ m. reply_by k number (take n whole) ∷ (replies_by next kinds (drop n whole) ++ reply_by kind m more ∷ [])) (omega arith)

short-is : (kind : ReplyKind) (number : ℕ) (reply : Reply) → whole_count kind ≡ 0 → Keeps number reply kind → reply_by kind number [] ≡ reply
short-is Registered number reply e h = h
short-is Held number reply e h = h
short-is MissingSegment number reply e h = h
short-is Pending number reply e h = h
short-is Dropped number reply e h = h
short-is NotLive number reply e h = h
short-is Idle number reply e h = h
short-is Whole number reply e h = let no : ⊥ = omega (arith, e) in absurd no

pub whole-is : (kind : ReplyKind) → (whole_count kind ≡ 0 → ⊥) → kind ≡ Whole
whole-is Registered h = absurd (h refl)
whole-is Held h = absurd (h refl)
whole-is MissingSegment h = absurd (h refl)
whole-is Pending h = absurd (h refl)
whole-is Dropped h = absurd (h refl)
whole-is NotLive h = absurd (h refl)
whole-is Idle h = absurd (h refl)
whole-is Whole h = refl

-- a reply that a name tells
pub kept-short : (kinds : List ReplyKind) (whole : List Reply) (kind : ReplyKind) (reply : Reply) (number : ℕ)
    → whole_in kinds ≡ length whole → registered_in kinds ≡ number
    → whole_count kind ≡ 0 → Keeps number reply kind → replies_by 0 (kinds ++ kind ∷ []) whole ≡ replies_by 0 kinds whole ++ reply ∷ []
kept-short kinds whole kind reply number e f none h =
    ap (λ l. replies_by 0 (kinds ++ kind ∷ []) l) (sym (append-nil whole))
    ∙ replies-pushed 0 kinds whole [] kind e none
    ∙ ap (λ m. replies_by 0 kinds whole ++ reply_by kind m [] ∷ []) (let same : 0 + registered_in kinds ≡ number = omega (arith, f) in same)
    ∙ ap (λ r. replies_by 0 kinds whole ++ r ∷ []) (short-is kind number reply none h)

-- a reply that is kept whole
pub kept-whole : (kinds : List ReplyKind) (whole : List Reply) (kind : ReplyKind) (reply : Reply) → whole_in kinds ≡ length whole → kind ≡ Whole
    → replies_by 0 (kinds ++ kind ∷ []) (whole ++ reply ∷ []) ≡ replies_by 0 kinds whole ++ reply ∷ []
kept-whole kinds whole kind reply e is = subst (λ k. replies_by 0 (kinds ++ k ∷ []) (whole ++ reply ∷ []) ≡ replies_by 0 kinds whole ++ reply ∷ []) (sym is)
    (replies-pushed 0 kinds whole (reply ∷ []) Whole e refl)
