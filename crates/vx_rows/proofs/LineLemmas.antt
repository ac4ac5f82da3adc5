-- A value reads alike from a line and from the text whose first line it is.
use Rattle.std.proofs.Common.{◌≡◌, ℕ, ℤ, zero, suc, pos, ◌+◌, ◌*◌, ◌-◌, ◌<◌, Bool, true, false, cond, List, [], ◌∷◌, ◌++◌, length, take, drop, Option, Some, None, Result, Ok, Err, refl, ap, sym, ◌∙◌, subst, arith, ◌⊎◌, inl, inr}
use Rattle.std.specs.Prelude.{◌==◌, codes}
use Rattle.std.specs.List.{list_all}
use Rattle.std.specs.Option.{option_map, option_and_then, option_or}
use Rattle.std.proofs.lemmas.Bool.Decides.{nat_tests}
use Rattle.vx_base.specs.Checks.{◌>>=◌, ◌lacking◌}
use Rattle.vx_data.specs.declared.ptype.PType.{PType}
use Rattle.vx_data.specs.Texts.{comma}
use Rattle.vx_data.specs.TextsRead.{after, is_quote_byte, quote_length, unquoted, quoted_in}
use Rattle.vx_rows.specs.declared.rows_error.RowsError.{RowsError}
use Rattle.vx_rows.specs.declared.rows_error.RowsError.TheVariants.{BadLine}
use Rattle.vx_rows.specs.Columns.{Structs}
use Rattle.vx_rows.specs.Written.{is_within}
use Rattle.vx_rows.specs.Rows.{Rows, FieldRows, bools, ints, texts, structs, no_columns, column}
use Rattle.vx_rows.specs.ReadValues.{null_in, unless_null, optional_in, truth_in, is_digit, digits_in, natural_in, below_zero, signed_in, integer_in, within_range, number_in}
use Rattle.vx_rows.specs.ReadRows.{all_absent, more_bools, more_ints, more_texts, more_structs, closed, struct_unless, value_in, values_in, alone, line_in, lines_of, rows_behind, ended, row_in}
use Rattle.vx_rows.proofs.PlainTextLemmas.{first-of, second-of}
use Rattle.vx_rows.proofs.ReadingLemmas.{is_other, other-test, rows_end}

-- no line feed
abbrev AreOther : List ℕ → Type 0
AreOther t = list_all is_other t ≡ true

-- what is read where a line feed and more come behind a text, beside what is read of the text alone
abbrev Follows : {A : Type 0} → List ℕ → Option (A × List ℕ) → Option (A × List ℕ) → Type 0
Follows r None o = o ≡ None
Follows r (Some x) o = AreOther x.1 × (o ≡ Some (x.0, x.1 ++ 10 ∷ r))

abbrev Stays : List ℕ → Option (List ℕ) → Option (List ℕ) → Type 0
Stays r None o = o ≡ None
Stays r (Some t) o = AreOther t × (o ≡ Some (t ++ 10 ∷ r))

-- ---- steps

follows-map : {A B : Type 0} (f : A → B) (r : List ℕ) (o p : Option (A × List ℕ)) → Follows r o p
    → Follows r (option_map (λ (x : A × List ℕ). (f x.0, x.1)) o) (option_map (λ (x : A × List ℕ). (f x.0, x.1)) p)
follows-map f r None p h = ap (option_map (λ x. (f x.0, x.1))) h
follows-map f r (Some x) p h = (h.0, ap (option_map (λ y. (f y.0, y.1))) h.1)

follows-then : {A B : Type 0} (k : A × List ℕ → Option (B × List ℕ)) (r : List ℕ) (o p : Option (A × List ℕ)) → Follows r o p
    → ((x : A × List ℕ) → AreOther x.1 → Follows r (k x) (k (x.0, x.1 ++ 10 ∷ r))) → Follows r (option_and_then k o) (option_and_then k p)
follows-then k r None p h g = ap (option_and_then k) h
follows-then k r (Some x) p h g = subst (λ q. Follows r (k x) (option_and_then k q)) (sym h.1) (g x h.0)

stays-map : {A : Type 0} (a : A) (r : List ℕ) (o p : Option (List ℕ)) → Stays r o p → Follows r (option_map (λ (t : List ℕ). (a, t)) o) (option_map (λ (t : List ℕ). (a, t)) p)
stays-map a r None p h = ap (option_map (λ t. (a, t))) h
stays-map a r (Some t) p h = (h.0, ap (option_map (λ u. (a, u))) h.1)

stays-then : {B : Type 0} (k : List ℕ → Option (B × List ℕ)) (r : List ℕ) (o p : Option (List ℕ)) → Stays r o p
    → ((t : List ℕ) → AreOther t → Follows r (k t) (k (t ++ 10 ∷ r))) → Follows r (option_and_then k o) (option_and_then k p)
stays-then k r None p h g = ap (option_and_then k) h
stays-then k r (Some t) p h g = subst (λ q. Follows r (k t) (option_and_then k q)) (sym h.1) (g t h.0)

-- ---- fronts

feed-other : (c : ℕ) → is_other c ≡ true → (10 == c) ≡ false
feed-other c h = grind (arith, nat_tests)

after-stays : (front t r : List ℕ) → AreOther front → AreOther t → Stays r (after front t) (after front (t ++ 10 ∷ r))
after-stays [] t r f h = (h, refl)
after-stays (c ∷ cs) [] r f h = rw (feed-other c (first-of (is_other c) _ f)) refl
after-stays (c ∷ cs) (b ∷ t) r f h = step (b == c) (after-stays cs t r (second-of (is_other c) _ f) (second-of (is_other b) _ h))
  where
    step : (v : Bool) → Stays r (after cs t) (after cs (t ++ 10 ∷ r)) → Stays r (cond v (after cs t) None) (cond v (after cs (t ++ 10 ∷ r)) None)
    step true k = k
    step false k = refl

null-stays : (nullable : Bool) (t r : List ℕ) → AreOther t → Stays r (null_in nullable t) (null_in nullable (t ++ 10 ∷ r))
null-stays true t r h = after-stays (codes "~") t r refl h
null-stays false t r h = refl

unless-follows : {A : Type 0} (r : List ℕ) (n m : Option (List ℕ)) (o p : Option (A × List ℕ)) → Stays r n m → Follows r o p → Follows r (unless_null n o) (unless_null m p)
unless-follows r None m o p h k = subst (λ q. Follows r (unless_null None o) (unless_null q p)) (sym h) (follows-map Some r o p k)
unless-follows r (Some t) m o p h k = (h.0, ap (λ q. unless_null q p) h.1)

or-follows : {A : Type 0} (r : List ℕ) (n m o p : Option (A × List ℕ)) → Follows r n m → Follows r o p → Follows r (option_or n o) (option_or m p)
or-follows r None m o p h k = subst (λ q. Follows r o (option_or q p)) (sym h) k
or-follows r (Some x) m o p h k = (h.0, ap (λ q. option_or q p) h.1)

optional-follows : {A : Type 0} (read : List ℕ → Option (A × List ℕ)) (nullable : Bool) (t r : List ℕ) → AreOther t → Follows r (read t) (read (t ++ 10 ∷ r))
    → Follows r (optional_in read nullable t) (optional_in read nullable (t ++ 10 ∷ r))
optional-follows read nullable t r h k = unless-follows r (null_in nullable t) (null_in nullable (t ++ 10 ∷ r)) (read t) (read (t ++ 10 ∷ r)) (null-stays nullable t r h) k

truth-follows : (t r : List ℕ) → AreOther t → Follows r (truth_in t) (truth_in (t ++ 10 ∷ r))
truth-follows t r h =
    or-follows r _ _ _ _ (stays-map true r (after (codes "true") t) (after (codes "true") (t ++ 10 ∷ r)) (after-stays (codes "true") t r refl h))
    (stays-map false r (after (codes "false") t) (after (codes "false") (t ++ 10 ∷ r)) (after-stays (codes "false") t r refl h))

-- ---- numbers

digits-other : (n : ℕ) (t : List ℕ) → AreOther t → AreOther (digits_in n t).1
unfolding digits_in
digits-other n [] h = h
digits-other n (c ∷ cs) h = step (is_digit c) (digits-other (10 * n + (c - 48)) cs (second-of (is_other c) _ h))
  where
    step : (b : Bool) → AreOther (digits_in (10 * n + (c - 48)) cs).1 → AreOther (cond b (digits_in (10 * n + (c - 48)) cs) (n, c ∷ cs)).1
    step true k = k
    step false k = h

digits-fed : (n : ℕ) (t r : List ℕ) → digits_in n (t ++ 10 ∷ r) ≡ ((digits_in n t).0, (digits_in n t).1 ++ 10 ∷ r)
unfolding digits_in
digits-fed n [] r = refl
digits-fed n (c ∷ cs) r = step (is_digit c) (digits_in (10 * n + (c - 48)) cs) (digits_in (10 * n + (c - 48)) (cs ++ 10 ∷ r)) (digits-fed (10 * n + (c - 48)) cs r)
  where
    step : (b : Bool) (x y : ℕ × List ℕ) → y ≡ (x.0, x.1 ++ 10 ∷ r) → cond b y (n, c ∷ cs ++ 10 ∷ r) ≡ ((cond b x (n, c ∷ cs)).0, (cond b x (n, c ∷ cs)).1 ++ 10 ∷ r)
    step true x y k = k
    step false x y k = refl

natural-follows : (t r : List ℕ) → AreOther t → Follows r (natural_in t) (natural_in (t ++ 10 ∷ r))
unfolding natural_in
natural-follows [] r h = refl
natural-follows (c ∷ cs) r h = step (c == 48) (is_digit c)
  where
    rest : AreOther cs
    rest = second-of (is_other c) _ h

    step : (a b : Bool) → Follows r (cond a (Some (0, cs)) (cond b (Some (digits_in (c - 48) cs)) None)) (cond a (Some (0, cs ++ 10 ∷ r)) (cond b (Some (digits_in (c - 48) (cs ++ 10 ∷ r))) None))
    step true b = (rest, refl)
    step false true = (digits-other (c - 48) cs rest, ap (λ x. Some x) (digits-fed (c - 48) cs r))
    step false false = refl

below-follows : (r : List ℕ) (x : ℕ × List ℕ) → AreOther x.1 → Follows r (below_zero x) (below_zero (x.0, x.1 ++ 10 ∷ r))
below-follows r (zero, t) h = refl
below-follows r (suc n, t) h = (h, refl)

signed-follows : (t r : List ℕ) (o p : Option (List ℕ)) → AreOther t → Stays r o p → Follows r (signed_in t o) (signed_in (t ++ 10 ∷ r) p)
signed-follows t r None p h k = subst (λ q. Follows r (signed_in t None) (signed_in (t ++ 10 ∷ r) q)) (sym k) (follows-map pos r (natural_in t) (natural_in (t ++ 10 ∷ r)) (natural-follows t r h))
signed-follows t r (Some u) p h k =
    subst (λ q. Follows r (signed_in t (Some u)) (signed_in (t ++ 10 ∷ r) q)) (sym k.1)
    (follows-then below_zero r (natural_in u) (natural_in (u ++ 10 ∷ r)) (natural-follows u r k.0) (below-follows r))

within-follows : (p : PType) (r : List ℕ) (x : ℤ × List ℕ) → AreOther x.1 → Follows r (within_range p x) (within_range p (x.0, x.1 ++ 10 ∷ r))
within-follows p r x h = step (is_within p x.0)
  where
    step : (b : Bool) → Follows r (cond b (Some x) None) (cond b (Some (x.0, x.1 ++ 10 ∷ r)) None)
    step true = (h, refl)
    step false = refl

number-follows : (p : PType) (t r : List ℕ) → AreOther t → Follows r (number_in p t) (number_in p (t ++ 10 ∷ r))
number-follows p t r h =
    follows-then (within_range p) r (integer_in t) (integer_in (t ++ 10 ∷ r))
    (signed-follows t r (after (codes "-") t) (after (codes "-") (t ++ 10 ∷ r)) h (after-stays (codes "-") t r refl h)) (within-follows p r)

-- ---- quoted text

quote-fed : (t r : List ℕ) → quote_length (t ++ 10 ∷ r) ≡ quote_length t
unfolding quote_length
quote-fed [] r = refl
quote-fed (c ∷ cs) r = ap (λ n. cond (is_quote_byte c) (suc n) 0) (quote-fed cs r)

take-fed : (t r : List ℕ) → take (quote_length t) (t ++ 10 ∷ r) ≡ take (quote_length t) t
unfolding quote_length
take-fed [] r = refl
take-fed (c ∷ cs) r = step (is_quote_byte c) (take-fed cs r)
  where
    step : (b : Bool) → take (quote_length cs) (cs ++ 10 ∷ r) ≡ take (quote_length cs) cs → take (cond b (suc (quote_length cs)) 0) (c ∷ cs ++ 10 ∷ r) ≡ take (cond b (suc (quote_length cs)) 0) (c ∷ cs)
    step true k = ap (λ xs. c ∷ xs) k
    step false k = refl

drop-fed : (t r : List ℕ) → drop (quote_length t) (t ++ 10 ∷ r) ≡ drop (quote_length t) t ++ 10 ∷ r
unfolding quote_length
drop-fed [] r = refl
drop-fed (c ∷ cs) r = step (is_quote_byte c) (drop-fed cs r)
  where
    step : (b : Bool) → drop (quote_length cs) (cs ++ 10 ∷ r) ≡ drop (quote_length cs) cs ++ 10 ∷ r → drop (cond b (suc (quote_length cs)) 0) (c ∷ cs ++ 10 ∷ r) ≡ drop (cond b (suc (quote_length cs)) 0) (c ∷ cs) ++ 10 ∷ r
    step true k = k
    step false k = refl

drop-other : (n : ℕ) (t : List ℕ) → AreOther t → AreOther (drop n t)
drop-other zero t h = h
drop-other (suc n) [] h = h
drop-other (suc n) (c ∷ cs) h = drop-other n cs (second-of (is_other c) _ h)

quoted-follows : (t r : List ℕ) → AreOther t → Follows r (quoted_in t) (quoted_in (t ++ 10 ∷ r))
unfolding quoted_in
quoted-follows t r h = rw (quote-fed t r, take-fed t r, drop-fed t r) (step (unquoted (take (quote_length t) t)) (drop (quote_length t) t) (drop-other (quote_length t) t h))
  where
    step : (o : Option (List ℕ)) (u : List ℕ) → AreOther u → Follows r (option_map (λ (x : List ℕ). (x, u)) o) (option_map (λ (x : List ℕ). (x, u ++ 10 ∷ r)) o)
    step None u k = refl
    step (Some x) u k = (k, refl)

-- ---- values

comma-other : (first : Bool) → AreOther (comma first)
comma-other true = refl
comma-other false = refl

struct-follows : (r : List ℕ) (n m o p : Option (Rows × List ℕ)) → Follows r n m → Follows r o p → Follows r (struct_unless n o) (struct_unless m p)
struct-follows r None m o p h k = subst (λ q. Follows r o (struct_unless q p)) (sym h) k
struct-follows r (Some x) m o p h k = (h.0, ap (λ q. struct_unless q p) h.1)

closed-follows : (c : Structs) (r : List ℕ) (x : FieldRows × List ℕ) → AreOther x.1 → Follows r (closed c x) (closed c (x.0, x.1 ++ 10 ∷ r))
closed-follows c r x h = stays-map (structs (more_structs c true) x.0) r (after (codes ")") x.1) (after (codes ")") (x.1 ++ 10 ∷ r)) (after-stays (codes ")") x.1 r refl h)

mutual
  value-follows : (c : Rows) (t r : List ℕ) → AreOther t → Follows r (value_in c t) (value_in c (t ++ 10 ∷ r))
  value-follows (bools c) t r h =
      follows-map (λ x. bools (more_bools c x)) r (optional_in truth_in c.nullable t) (optional_in truth_in c.nullable (t ++ 10 ∷ r)) (optional-follows truth_in c.nullable t r h (truth-follows t r h))
  value-follows (ints c) t r h =
      follows-map (λ x. ints (more_ints c x)) r (optional_in (number_in c.ptype) c.nullable t) (optional_in (number_in c.ptype) c.nullable (t ++ 10 ∷ r))
      (optional-follows (number_in c.ptype) c.nullable t r h (number-follows c.ptype t r h))
  value-follows (texts c) t r h =
      follows-map (λ x. texts (more_texts c x)) r (optional_in quoted_in c.nullable t) (optional_in quoted_in c.nullable (t ++ 10 ∷ r)) (optional-follows quoted_in c.nullable t r h (quoted-follows t r h))
  value-follows (structs c cs) t r h =
      struct-follows r _ _ _ _
      (stays-map (structs (more_structs c false) (all_absent cs)) r (null_in c.nullable t) (null_in c.nullable (t ++ 10 ∷ r)) (null-stays c.nullable t r h))
      (stays-then (λ inside. option_and_then (closed c) (values_in true cs inside)) r (after (codes "(") t) (after (codes "(") (t ++ 10 ∷ r)) (after-stays (codes "(") t r refl h)
      (λ u k. follows-then (closed c) r (values_in true cs u) (values_in true cs (u ++ 10 ∷ r)) (values-follow true cs u r k) (closed-follows c r)))

  values-follow : (first : Bool) (cs : FieldRows) (t r : List ℕ) → AreOther t → Follows r (values_in first cs t) (values_in first cs (t ++ 10 ∷ r))
  values-follow first no_columns t r h = (h, refl)
  values-follow first (column name c cs) t r h =
      follows-then (λ (x : Rows × List ℕ). option_map (λ (y : FieldRows × List ℕ). (column name x.0 y.0, y.1)) (values_in false cs x.1)) r
      (option_and_then (λ u. value_in c u) (after (comma first) t)) (option_and_then (λ u. value_in c u) (after (comma first) (t ++ 10 ∷ r)))
      (stays-then (λ u. value_in c u) r (after (comma first) t) (after (comma first) (t ++ 10 ∷ r)) (after-stays (comma first) t r (comma-other first) h) (λ u k. value-follows c u r k))
      (λ x k. follows-map (λ y. column name x.0 y) r (values_in false cs x.1) (values_in false cs (x.1 ++ 10 ∷ r)) (values-follow false cs x.1 r k))

-- ---- lines

-- a text whose first line and what follows it are these
abbrev IsCut : List ℕ → List ℕ → List ℕ → Type 0
IsCut t line rest = (lines_of t ≡ line ∷ lines_of rest) × AreOther line × (length rest < length t) × (((t ≡ line) × (rest ≡ [])) ⊎ (t ≡ line ++ 10 ∷ rest))

equal : (b c : ℕ) → (b == c) ≡ true → b ≡ c
equal b c h = grind (arith, nat_tests)

not-feed : (c : ℕ) → (c == 10) ≡ false → is_other c ≡ true
not-feed c h = grind (arith, nat_tests)

longer-cut : (c : ℕ) (cs line rest : List ℕ) → (c == 10) ≡ false → IsCut cs line rest → IsCut (c ∷ cs) (c ∷ line) rest
unfolding lines_of
longer-cut c cs line rest e h = (rw (e, h.0) refl, rw (not-feed c e) h.1, omega (arith, h.2), which h.3)
  where
    which : ((cs ≡ line) × (rest ≡ [])) ⊎ (cs ≡ line ++ 10 ∷ rest) → ((c ∷ cs ≡ c ∷ line) × (rest ≡ [])) ⊎ (c ∷ cs ≡ (c ∷ line) ++ 10 ∷ rest)
    which (inl k) = inl (ap (λ xs. c ∷ xs) k.0, k.1)
    which (inr k) = inr (ap (λ xs. c ∷ xs) k)

fed-cut : (c : ℕ) (cs : List ℕ) → (c == 10) ≡ true → IsCut (c ∷ cs) [] cs
unfolding lines_of
fed-cut c cs e = (rw e refl, refl, omega arith, inr (ap (λ b. b ∷ cs) (equal c 10 e)))

last-cut : (c : ℕ) → (c == 10) ≡ false → IsCut (c ∷ []) (c ∷ []) []
unfolding lines_of
last-cut c e = (rw e refl, rw (not-feed c e) refl, omega arith, inl (refl, refl))

cut : (c : ℕ) (cs : List ℕ) → (line : List ℕ) × (rest : List ℕ) × IsCut (c ∷ cs) line rest
cut c [] = step (c == 10) refl
  where
    step : (b : Bool) → (c == 10) ≡ b → (line : List ℕ) × (rest : List ℕ) × IsCut (c ∷ []) line rest
    step true e = ([], [], fed-cut c [] e)
    step false e = (c ∷ [], [], last-cut c e)
cut c (d ∷ ds) = step (c == 10) refl (cut d ds)
  where
    step : (b : Bool) → (c == 10) ≡ b → ((line : List ℕ) × (rest : List ℕ) × IsCut (d ∷ ds) line rest) → (line : List ℕ) × (rest : List ℕ) × IsCut (c ∷ d ∷ ds) line rest
    step true e k = ([], d ∷ ds, fed-cut c (d ∷ ds) e)
    step false e k = (c ∷ k.0, k.1, longer-cut c (d ∷ ds) k.0 k.1 e k.2)

not-ended : (d : Rows) (b : ℕ) (t : List ℕ) → is_other b ≡ true → ended (d, b ∷ t) ≡ None
not-ended d b t h = ap (λ v. option_map (λ (rest : List ℕ). (d, rest)) (cond v (Some t) None)) (other-test b h)

some-left : (n : ℕ) → (suc n == 0) ≡ false
some-left n = grind (arith, nat_tests)

not-alone : (d : Rows) (b : ℕ) (t : List ℕ) → alone (d, b ∷ t) ≡ None
not-alone d b t = ap (λ v. cond v (Some d) None) (some-left (length t))

-- what is read of a text, for what is read of its first line
ended-alone : (rest : List ℕ) (x : Rows × List ℕ) → AreOther x.1 → ended (x.0, x.1 ++ 10 ∷ rest) ≡ option_map (λ (d : Rows). (d, rest)) (alone x)
ended-alone rest (d, []) h = refl
ended-alone rest (d, b ∷ t) h = not-ended d b (t ++ 10 ∷ rest) (first-of (is_other b) _ h) ∙ ap (option_map (λ (e : Rows). (e, rest))) (sym (not-alone d b t))

last-alone : (r : List ℕ) (o p : Option (Rows × List ℕ)) → Follows r o p → option_and_then ended o ≡ option_map (λ (d : Rows). (d, [])) (option_and_then alone o)
last-alone r None p h = refl
last-alone r (Some (d, [])) p h = refl
last-alone r (Some (d, b ∷ t)) p h = not-ended d b t (first-of (is_other b) _ h.0) ∙ ap (option_map (λ (e : Rows). (e, []))) (sym (not-alone d b t))

fed-alone : (rest : List ℕ) (o p : Option (Rows × List ℕ)) → Follows rest o p → option_and_then ended p ≡ option_map (λ (d : Rows). (d, rest)) (option_and_then alone o)
fed-alone rest None p h = ap (option_and_then ended) h
fed-alone rest (Some x) p h = ap (option_and_then ended) h.1 ∙ ended-alone rest x h.0

row-cut : (c : Rows) (t line rest : List ℕ) → IsCut t line rest → row_in c t ≡ option_map (λ (d : Rows). (d, rest)) (line_in c line)
row-cut c t line rest h = which h.3
  where
    which : ((t ≡ line) × (rest ≡ [])) ⊎ (t ≡ line ++ 10 ∷ rest) → row_in c t ≡ option_map (λ (d : Rows). (d, rest)) (line_in c line)
    which (inl k) =
        ap (row_in c) k.0 ∙ last-alone [] (value_in c line) (value_in c (line ++ 10 ∷ [])) (value-follows c line [] h.1)
        ∙ ap (λ (xs : List ℕ). option_map (λ (d : Rows). (d, xs)) (line_in c line)) (sym k.1)
    which (inr k) = ap (row_in c) k ∙ fed-alone rest (value_in c line) (value_in c (line ++ 10 ∷ rest)) (value-follows c line rest h.1)

-- ---- rows

abbrev IsRow : Rows → ℕ → List ℕ → List ℕ → Option Rows → Type 0
IsRow c number t rest o = (rows_behind c number (lines_of t) ≡ ((BadLine number lacking o) >>= λ d. rows_behind d (number + 1) (lines_of rest))) × (row_in c t ≡ option_map (λ (d : Rows). (d, rest)) o) × (length rest < length t)

row-of : (c : Rows) (number : ℕ) (t : List ℕ) → 0 < length t → (rest : List ℕ) × (o : Option Rows) × IsRow c number t rest o
unfolding rows_behind
row-of c number [] some = absurd (omega (arith, some))
row-of c number (b ∷ t) some =
    let h = cut b t in
    (h.1, line_in c h.0, (rw h.2.0 refl, row-cut c (b ∷ t) h.0 h.1 h.2, h.2.2))

read-row : (c d : Rows) (number : ℕ) (t rest behind : List ℕ) (o : Option Rows) → IsRow c number t behind o → (BadLine number lacking row_in c t) ≡ Ok (d, rest) → (o ≡ Some d) × (behind ≡ rest)
read-row c d number t rest behind o h e = by o (ap (λ (r : Option (Rows × List ℕ)). BadLine number lacking r) (sym h.1) ∙ e)
  where
    by : (p : Option Rows) → ◌lacking◌ {A = Rows × List ℕ} (BadLine number) (option_map (λ (x : Rows). (x, behind)) p) ≡ Ok (d, rest) → (p ≡ Some d) × (behind ≡ rest)
    by None k = absurd cc
    by (Some x) k = let pair : (x, behind) ≡ (d, rest) = cc in (ap (λ (p : Rows × List ℕ). Some p.0) pair, ap (λ (p : Rows × List ℕ). p.1) pair)

pub text_row_more : (c d : Rows) (number : ℕ) (t rest : List ℕ) → 0 < length t → (BadLine number lacking row_in c t) ≡ Ok (d, rest)
    → rows_behind d (number + 1) (lines_of rest) ≡ rows_behind c number (lines_of t)
text_row_more c d number t rest some e =
    let h = row-of c number t some in
    let same = read-row c d number t rest h.0 h.1 h.2 e in
    sym (h.2.0 ∙ ap (λ (o : Option Rows). (BadLine number lacking o) >>= λ x. rows_behind x (number + 1) (lines_of h.0)) same.0 ∙ ap (λ xs. rows_behind d (number + 1) (lines_of xs)) same.1)

pub text_row_shorter : (c d : Rows) (number : ℕ) (t rest : List ℕ) → 0 < length t → (BadLine number lacking row_in c t) ≡ Ok (d, rest) → length rest < length t
text_row_shorter c d number t rest some e =
    let h = row-of c number t some in
    let same = read-row c d number t rest h.0 h.1 h.2 e in
    subst (λ (xs : List ℕ). length xs < length t) same.1 h.2.2

unread : (c : Rows) (number bad : ℕ) (t behind : List ℕ) (o : Option Rows) → IsRow c number t behind o → (BadLine number lacking row_in c t) ≡ Err (BadLine bad) → (BadLine number lacking o) ≡ Err (BadLine bad)
unread c number bad t behind o h e = by o (ap (λ (r : Option (Rows × List ℕ)). BadLine number lacking r) (sym h.1) ∙ e)
  where
    by : (p : Option Rows) → ◌lacking◌ {A = Rows × List ℕ} (BadLine number) (option_map (λ (x : Rows). (x, behind)) p) ≡ Err (BadLine bad) → (BadLine number lacking p) ≡ Err (BadLine bad)
    by None k = let same : number ≡ bad = cc in ap (λ n. Err (BadLine n)) same
    by (Some x) k = absurd cc

pub text_row_fails : (c : Rows) (number bad : ℕ) (t : List ℕ) → 0 < length t → (BadLine number lacking row_in c t) ≡ Err (BadLine bad) → rows_behind c number (lines_of t) ≡ Err (BadLine bad)
text_row_fails c number bad t some e =
    let h = row-of c number t some in
    h.2.0 ∙ ap (λ (r : Result Rows RowsError). r >>= λ x. rows_behind x (number + 1) (lines_of h.0)) (unread c number bad t h.0 h.1 h.2 e)

pub ruleset text_row_steps = (rows_end, text_row_more, text_row_shorter, text_row_fails)
