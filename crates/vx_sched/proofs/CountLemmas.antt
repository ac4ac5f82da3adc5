-- How many ranges are in flight, and how many reads are polled, after a change.
use Rattle.std.proofs.Common.{◌≡◌, ℕ, ◌+◌, ◌<◌, ◌≤◌, ◌==◌, ◌∷◌, ◌++◌, Bool, true, false, cond, List, [], length, Option, Some, None, refl, ap, sym, ◌∙◌, arith}
use Rattle.std.specs.Prelude.{is_some}
use Rattle.std.proofs.lemmas.Bool.Decides.{nat_tests}
use Rattle.vx_sched.specs.Merging.{is_listed, first_number}
use Rattle.vx_sched.specs.Reads.{Known, Reads, read_at, waiting_at, polled_at, leads_at, flying_at, has_first, flights, if_waiting, if_polled, if_flying, if_leads, is_polled, is_flying, Rise, keep, change, register_read, take_read, resolve_read, poll_read, drop_read}
use Rattle.vx_sched.specs.Counting.{count_in, same_state}
use Rattle.vx_sched.proofs.ChangeLemmas.{rise-none}
use Rattle.vx_sched.specs.declared.request.ReadRequest.{ReadRequest}
use Rattle.vx_sched.specs.declared.read.ReadState.{ReadState}
use Rattle.vx_sched.specs.declared.read.ReadState.TheVariants as state

-- one more flight, or none
length-flights : (g : List ReadRequest) (rest : Reads) → length (cond (has_first g) (g ∷ flights rest) (flights rest)) ≡ length (flights rest) + cond (has_first g) 1 0
length-flights g rest = at (has_first g)
  where
    at : (b : Bool) → length (cond b (g ∷ flights rest) (flights rest)) ≡ length (flights rest) + cond b 1 0
    at true = omega arith
    at false = omega arith

-- whether the first of some reads waits
abbrev waits : List ReadRequest → Reads → ℕ
waits rs reads = cond (is_some (waiting_at reads (first_number rs))) 1 0

ranges-run : (rs : List ReadRequest) (n : ℕ) (reads : Reads) → Rise n reads → has_first rs ≡ true → is_listed rs (first_number rs) ≡ true → ((q : ℕ) → is_listed rs q ≡ true → leads_at reads q ≡ [])
    → length (flights (change (is_listed rs) (take_read rs) reads)) ≡ length (flights reads) + waits rs reads
ranges-run rs n [] r some first none = omega arith
ranges-run rs n (x ∷ rest) r some first none =
    at (is_listed rs x.request.id) refl (x.request.id == first_number rs) refl
    (ranges-run rs (x.request.id + 1) rest r.1 some first (λ q l. none-rest q l (x.request.id == q) refl))
  where
    none-rest : (q : ℕ) → is_listed rs q ≡ true → (b : Bool) → (x.request.id == q) ≡ b → leads_at rest q ≡ []
    none-rest q l true e =
        let low : q < x.request.id + 1 = grind (arith, nat_tests) in
        ap if_leads (rise-none (x.request.id + 1) rest q r.1 low)
    none-rest q l false e = sym (ap (λ b. if_leads (cond b (Some x) (read_at rest q))) e) ∙ none q l

    self : (x.request.id == x.request.id) ≡ true
    self = grind (arith, nat_tests)

    mine : is_listed rs x.request.id ≡ true → x.leads ≡ []
    mine l = sym (ap (λ b. if_leads (cond b (Some x) (read_at rest x.request.id))) self) ∙ none x.request.id l

    gone : (x.request.id == first_number rs) ≡ true → waits rs rest ≡ 0
    gone e =
        let low : first_number rs < x.request.id + 1 = grind (arith, nat_tests) in
        ap (λ z. cond (is_some (if_waiting z)) 1 0) (rise-none (x.request.id + 1) rest (first_number rs) r.1 low)

    -- a listed read, by its state
    listed : (s : ReadState) (f : Bool) → (x.request.id == first_number rs) ≡ f → x.leads ≡ []
        → length (flights (change (is_listed rs) (take_read rs) rest)) ≡ length (flights rest) + waits rs rest
        → length (flights (keep (take_read rs (record x { state = s })) (change (is_listed rs) (take_read rs) rest)))
        ≡ length (cond (has_first x.leads) (x.leads ∷ flights rest) (flights rest)) + cond (is_some (if_waiting (cond f (Some (record x { state = s })) (read_at rest (first_number rs))))) 1 0
    listed state.Registered true e l ih = rw (e, l, some) (let z = gone e in omega (arith, ih, z))
    listed state.Registered false e l ih = rw (e, l) ih
    listed state.Polled true e l ih = rw (e, l, some) (let z = gone e in omega (arith, ih, z))
    listed state.Polled false e l ih = rw (e, l) ih
    listed state.InFlight true e l ih = rw l (let z = gone e in omega (arith, ih, z))
    listed state.InFlight false e l ih = rw l ih
    listed state.Resolved true e l ih = rw l (let z = gone e in omega (arith, ih, z))
    listed state.Resolved false e l ih = rw l ih

    at : (b : Bool) → is_listed rs x.request.id ≡ b → (f : Bool) → (x.request.id == first_number rs) ≡ f
        → length (flights (change (is_listed rs) (take_read rs) rest)) ≡ length (flights rest) + waits rs rest
        → length (flights (keep (cond b (take_read rs x) (Some x)) (change (is_listed rs) (take_read rs) rest)))
        ≡ length (cond (has_first x.leads) (x.leads ∷ flights rest) (flights rest)) + cond (is_some (if_waiting (cond (x.request.id == first_number rs) (Some x) (read_at rest (first_number rs))))) 1 0
    at true l f e ih = listed x.state f e (mine l) ih ∙ ap (λ b. length (cond (has_first x.leads) (x.leads ∷ flights rest) (flights rest)) + cond (is_some (if_waiting (cond b (Some x) (read_at rest (first_number rs))))) 1 0) (sym e)
    at false l true e ih =
        let same : x.request.id ≡ first_number rs = grind (arith, nat_tests) in
        cc (sym l ∙ ap (is_listed rs) same ∙ first)
    at false l false e ih =
        length-flights x.leads (change (is_listed rs) (take_read rs) rest)
        ∙ ap (λ m. m + cond (has_first x.leads) 1 0) ih
        ∙ move (length (flights rest)) (waits rs rest) (cond (has_first x.leads) 1 0)
        ∙ ap (λ m. m + waits rs rest) (sym (length-flights x.leads rest))
        ∙ ap (λ b. length (cond (has_first x.leads) (x.leads ∷ flights rest) (flights rest)) + cond (is_some (if_waiting (cond b (Some x) (read_at rest (first_number rs))))) 1 0) (sym e)
      where
        move : (a b c : ℕ) → a + b + c ≡ a + c + b
        move a b c = omega arith

-- a span that is taken is one more range
pub ranges-taken : (rs : List ReadRequest) (reads : Reads) → Rise 0 reads → has_first rs ≡ true → is_listed rs (first_number rs) ≡ true → ((q : ℕ) → is_listed rs q ≡ true → leads_at reads q ≡ [])
    → is_some (waiting_at reads (first_number rs)) ≡ true → length (flights (change (is_listed rs) (take_read rs) reads)) ≡ length (flights reads) + 1
ranges-taken rs reads r some first none w = ranges-run rs 0 reads r some first none ∙ ap (λ b. length (flights reads) + cond b 1 0) w

-- a read in flight, or none
abbrev flying_or_none : Option Known → Bool
flying_or_none None = true
flying_or_none (Some x) = is_flying x.state

-- whether the first of some reads leads a span
abbrev leads : List ReadRequest → Reads → ℕ
leads rs reads = cond (has_first (leads_at reads (first_number rs))) 1 0

resolved-run : (rs : List ReadRequest) (n : ℕ) (reads : Reads) → Rise n reads → is_listed rs (first_number rs) ≡ true → ((q : ℕ) → is_listed rs q ≡ true → flying_or_none (read_at reads q) ≡ true)
    → ((q : ℕ) → is_listed rs q ≡ true → (first_number rs == q) ≡ false → leads_at reads q ≡ [])
    → length (flights (change (is_listed rs) resolve_read reads)) + leads rs reads ≡ length (flights reads)
resolved-run rs n [] r first fly none = omega arith
resolved-run rs n (x ∷ rest) r first fly none =
    at (is_listed rs x.request.id) refl (first_number rs == x.request.id) refl
    (resolved-run rs (x.request.id + 1) rest r.1 first (λ q l. fly-rest q l (x.request.id == q) refl) (λ q l e. none-rest q l e (x.request.id == q) refl))
  where
    low : (q : ℕ) → (x.request.id == q) ≡ true → read_at rest q ≡ None
    low q e =
        let less : q < x.request.id + 1 = grind (arith, nat_tests) in
        rise-none (x.request.id + 1) rest q r.1 less

    fly-rest : (q : ℕ) → is_listed rs q ≡ true → (b : Bool) → (x.request.id == q) ≡ b → flying_or_none (read_at rest q) ≡ true
    fly-rest q l true e = ap flying_or_none (low q e)
    fly-rest q l false e = sym (ap (λ b. flying_or_none (cond b (Some x) (read_at rest q))) e) ∙ fly q l

    none-rest : (q : ℕ) → is_listed rs q ≡ true → (first_number rs == q) ≡ false → (b : Bool) → (x.request.id == q) ≡ b → leads_at rest q ≡ []
    none-rest q l k true e = ap if_leads (low q e)
    none-rest q l k false e = sym (ap (λ b. if_leads (cond b (Some x) (read_at rest q))) e) ∙ none q l k

    self : (x.request.id == x.request.id) ≡ true
    self = grind (arith, nat_tests)

    flies : is_listed rs x.request.id ≡ true → is_flying x.state ≡ true
    flies l = sym (ap (λ b. flying_or_none (cond b (Some x) (read_at rest x.request.id))) self) ∙ fly x.request.id l

    lone : is_listed rs x.request.id ≡ true → (first_number rs == x.request.id) ≡ false → x.leads ≡ []
    lone l e = sym (ap (λ b. if_leads (cond b (Some x) (read_at rest x.request.id))) self) ∙ none x.request.id l e

    here : (b : Bool) → (x.request.id == first_number rs) ≡ b → cond (has_first (if_leads (cond (x.request.id == first_number rs) (Some x) (read_at rest (first_number rs))))) 1 0 ≡ cond b (cond (has_first x.leads) 1 0) (leads rs rest)
    here true e = ap (λ b. cond (has_first (if_leads (cond b (Some x) (read_at rest (first_number rs))))) 1 0) e
    here false e = ap (λ b. cond (has_first (if_leads (cond b (Some x) (read_at rest (first_number rs))))) 1 0) e

    gone : (x.request.id == first_number rs) ≡ true → leads rs rest ≡ 0
    gone e = ap (λ z. cond (has_first (if_leads z)) 1 0) (low (first_number rs) e)

    -- a listed read leads nothing any more
    after : (t : ReadState) (d : Bool) → is_flying t ≡ true → length (flights (keep (resolve_read (record x { state = t; dropped = d })) (change (is_listed rs) resolve_read rest))) ≡ length (flights (change (is_listed rs) resolve_read rest))
    after state.Registered d h = cc
    after state.Polled d h = cc
    after state.InFlight true h = refl
    after state.InFlight false h = refl
    after state.Resolved d h = cc

    at : (b : Bool) → is_listed rs x.request.id ≡ b → (f : Bool) → (first_number rs == x.request.id) ≡ f
        → length (flights (change (is_listed rs) resolve_read rest)) + leads rs rest ≡ length (flights rest)
        → length (flights (keep (cond b (resolve_read x) (Some x)) (change (is_listed rs) resolve_read rest))) + cond (has_first (if_leads (cond (x.request.id == first_number rs) (Some x) (read_at rest (first_number rs))))) 1 0
        ≡ length (cond (has_first x.leads) (x.leads ∷ flights rest) (flights rest))
    at true l true e ih =
        let flip : (x.request.id == first_number rs) ≡ true = grind (arith, nat_tests) in
        let a = after x.state x.dropped (flies l) in
        let c = here true flip in
        let d = length-flights x.leads rest in
        let z = gone flip in
        omega (arith, a, c, d, z, ih)
    at true l false e ih =
        let flip : (x.request.id == first_number rs) ≡ false = grind (arith, nat_tests) in
        let a = after x.state x.dropped (flies l) in
        let c = here false flip in
        let d : length (cond (has_first x.leads) (x.leads ∷ flights rest) (flights rest)) ≡ length (flights rest) = ap (λ z. length (cond (has_first z) (z ∷ flights rest) (flights rest))) (lone l e) in
        omega (arith, a, c, d, ih)
    at false l true e ih =
        let same : first_number rs ≡ x.request.id = grind (arith, nat_tests) in
        cc (sym l ∙ sym (ap (is_listed rs) same) ∙ first)
    at false l false e ih =
        let flip : (x.request.id == first_number rs) ≡ false = grind (arith, nat_tests) in
        let a = length-flights x.leads (change (is_listed rs) resolve_read rest) in
        let c = here false flip in
        let d = length-flights x.leads rest in
        omega (arith, a, c, d, ih)

-- a span that is resolved is one range less
pub ranges-resolved : (rs : List ReadRequest) (reads : Reads) → Rise 0 reads → is_listed rs (first_number rs) ≡ true → leads_at reads (first_number rs) ≡ rs → has_first rs ≡ true
    → ((q : ℕ) → is_listed rs q ≡ true → flying_at reads q ≡ true) → ((q : ℕ) → is_listed rs q ≡ true → (first_number rs == q) ≡ false → leads_at reads q ≡ [])
    → length (flights reads) ≡ length (flights (change (is_listed rs) resolve_read reads)) + 1
ranges-resolved rs reads r first lead some fly none =
    sym (resolved-run rs 0 reads r first (λ q l. or-none (read_at reads q) (fly q l)) none)
    ∙ ap (λ (z : List ReadRequest). length (flights (change (is_listed rs) resolve_read reads)) + cond (has_first z) 1 0) lead
    ∙ ap (λ b. length (flights (change (is_listed rs) resolve_read reads)) + cond b 1 0) some
  where
    or-none : (x : Option Known) → if_flying x ≡ true → flying_or_none x ≡ true
    or-none None h = refl
    or-none (Some x) h = h

-- a change that makes no read lead
abbrev pub LeadsNone : (Known → Option Known) → Type 0
LeadsNone made = (x : Known) → has_first (if_leads (made x)) ≡ true → has_first x.leads ≡ true

pub ranges-less : (among : ℕ → Bool) (made : Known → Option Known) (reads : Reads) → LeadsNone made → length (flights (change among made reads)) ≤ length (flights reads)
ranges-less among made [] h = omega arith
ranges-less among made (x ∷ rest) h = at (among x.request.id) (ranges-less among made rest h)
  where
    kept : (o : Option Known) → (has_first (if_leads o) ≡ true → has_first x.leads ≡ true) → length (flights (change among made rest)) ≤ length (flights rest)
        → length (flights (keep o (change among made rest))) ≤ length (cond (has_first x.leads) (x.leads ∷ flights rest) (flights rest))
    kept None i ih = let b = length-flights x.leads rest in omega (arith, b, ih)
    kept (Some y) i ih =
        let a = length-flights y.leads (change among made rest) in
        let b = length-flights x.leads rest in
        let c = bits (has_first y.leads) (has_first x.leads) i in
        omega (arith, a, b, c, ih)
      where
        bits : (p q : Bool) → (p ≡ true → q ≡ true) → cond p 1 0 ≤ cond q 1 0
        bits true true i = omega arith
        bits true false i = cc (i refl)
        bits false true i = omega arith
        bits false false i = omega arith

    at : (b : Bool) → length (flights (change among made rest)) ≤ length (flights rest)
        → length (flights (keep (cond b (made x) (Some x)) (change among made rest))) ≤ length (cond (has_first x.leads) (x.leads ∷ flights rest) (flights rest))
    at true ih = kept (made x) (h x) ih
    at false ih = kept (Some x) (λ e. e) ih

pub poll-leads : LeadsNone poll_read
poll-leads x h = h

pub drop-leads : LeadsNone drop_read
drop-leads x h = at x.state h
  where
    at : (s : ReadState) → has_first (if_leads (drop_read (record x { state = s }))) ≡ true → has_first x.leads ≡ true
    at state.Registered h = cc
    at state.Polled h = cc
    at state.InFlight h = h
    at state.Resolved h = cc

pub resolve-leads : LeadsNone resolve_read
resolve-leads x h = at x.state x.dropped h
  where
    at : (s : ReadState) (d : Bool) → has_first (if_leads (resolve_read (record x { state = s; dropped = d }))) ≡ true → has_first x.leads ≡ true
    at state.Registered d h = h
    at state.Polled d h = h
    at state.InFlight true h = cc
    at state.InFlight false h = cc
    at state.Resolved d h = h

pub ranges-added : (reads : Reads) (r : ReadRequest) → length (flights (reads ++ register_read r ∷ [])) ≡ length (flights reads)
ranges-added [] r = refl
ranges-added (x ∷ rest) r =
    length-flights x.leads (rest ++ register_read r ∷ []) ∙ ap (λ n. n + cond (has_first x.leads) 1 0) (ranges-added rest r) ∙ sym (length-flights x.leads rest)

-- ---- polled reads

abbrev polls : Reads → ℕ
polls reads = count_in state.Polled reads

take-polls : (rs : List ReadRequest) (x : Known) (s : ReadState) (rest : Reads) → polls (keep (take_read rs (record x { state = s })) rest) ≤ cond (same_state state.Polled s) 1 0 + polls rest
take-polls rs x state.Registered rest = omega arith
take-polls rs x state.Polled rest = omega arith
take-polls rs x state.InFlight rest = omega arith
take-polls rs x state.Resolved rest = omega arith

pub polls-less : (rs : List ReadRequest) (reads : Reads) → count_in state.Polled (change (is_listed rs) (take_read rs) reads) ≤ count_in state.Polled reads
polls-less rs [] = omega arith
polls-less rs (x ∷ rest) = at (is_listed rs x.request.id) (polls-less rs rest)
  where
    at : (b : Bool) → polls (change (is_listed rs) (take_read rs) rest) ≤ polls rest → polls (keep (cond b (take_read rs x) (Some x)) (change (is_listed rs) (take_read rs) rest)) ≤ cond (same_state state.Polled x.state) 1 0 + polls rest
    at true ih = let a = take-polls rs x x.state (change (is_listed rs) (take_read rs) rest) in omega (arith, a, ih)
    at false ih = omega (arith, ih)

resolve-polls : (x : Known) (s : ReadState) (d : Bool) (rest : Reads) → polls (keep (resolve_read (record x { state = s; dropped = d })) rest) ≤ cond (same_state state.Polled s) 1 0 + polls rest
resolve-polls x state.Registered d rest = omega arith
resolve-polls x state.Polled d rest = omega arith
resolve-polls x state.InFlight true rest = omega arith
resolve-polls x state.InFlight false rest = omega arith
resolve-polls x state.Resolved d rest = omega arith

-- no more reads are polled where some are resolved
pub polls-resolved : (rs : List ReadRequest) (reads : Reads) → count_in state.Polled (change (is_listed rs) resolve_read reads) ≤ count_in state.Polled reads
polls-resolved rs [] = omega arith
polls-resolved rs (x ∷ rest) = at (is_listed rs x.request.id) (polls-resolved rs rest)
  where
    at : (b : Bool) → polls (change (is_listed rs) resolve_read rest) ≤ polls rest → polls (keep (cond b (resolve_read x) (Some x)) (change (is_listed rs) resolve_read rest)) ≤ cond (same_state state.Polled x.state) 1 0 + polls rest
    at true ih = let a = resolve-polls x x.state x.dropped (change (is_listed rs) resolve_read rest) in omega (arith, a, ih)
    at false ih = omega (arith, ih)

take-polled : (rs : List ReadRequest) (x : Known) (s : ReadState) (rest : Reads) → is_polled s ≡ true → polls (keep (take_read rs (record x { state = s })) rest) + 1 ≤ cond (same_state state.Polled s) 1 0 + polls rest
take-polled rs x state.Registered rest h = cc
take-polled rs x state.Polled rest h = omega arith
take-polled rs x state.InFlight rest h = cc
take-polled rs x state.Resolved rest h = cc

-- fewer reads are polled once one of them is taken
pub polls-fewer : (rs : List ReadRequest) (reads : Reads) (q : ℕ) → is_listed rs q ≡ true → polled_at reads q ≡ true → count_in state.Polled (change (is_listed rs) (take_read rs) reads) < count_in state.Polled reads
polls-fewer rs [] q l p = cc
polls-fewer rs (x ∷ rest) q l p = at (x.request.id == q) refl p (polls-fewer rs rest q l)
  where
    here : (b : Bool) → b ≡ true → is_polled x.state ≡ true → polls (keep (cond b (take_read rs x) (Some x)) (change (is_listed rs) (take_read rs) rest)) + 1 ≤ cond (same_state state.Polled x.state) 1 0 + polls rest
    here true e h =
        let a = take-polled rs x x.state (change (is_listed rs) (take_read rs) rest) h in
        let b = polls-less rs rest in
        omega (arith, a, b)
    here false e h = cc

    there : (b : Bool) → polls (change (is_listed rs) (take_read rs) rest) < polls rest → polls (keep (cond b (take_read rs x) (Some x)) (change (is_listed rs) (take_read rs) rest)) < cond (same_state state.Polled x.state) 1 0 + polls rest
    there true ih = let a = take-polls rs x x.state (change (is_listed rs) (take_read rs) rest) in omega (arith, a, ih)
    there false ih = omega (arith, ih)

    at : (b : Bool) → (x.request.id == q) ≡ b → if_polled (cond b (Some x) (read_at rest q)) ≡ true → (polled_at rest q ≡ true → polls (change (is_listed rs) (take_read rs) rest) < polls rest)
        → polls (keep (cond (is_listed rs x.request.id) (take_read rs x) (Some x)) (change (is_listed rs) (take_read rs) rest)) < cond (same_state state.Polled x.state) 1 0 + polls rest
    at true e h step =
        let same : x.request.id ≡ q = grind (arith, nat_tests) in
        let a = here (is_listed rs x.request.id) (ap (is_listed rs) same ∙ l) h in
        omega (arith, a)
    at false e h step = there (is_listed rs x.request.id) (step h)
