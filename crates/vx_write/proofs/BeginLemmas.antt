-- What is refused before any chunk.
use Rattle.std.proofs.Common.{◌≡◌, ℕ, ◌+◌, ◌^◌, Bool, true, false, List, [], ◌∷◌, length, Ok, Err, refl, sym, ap, ◌∙◌}
use Rattle.std.specs.Prelude.{Result, IsOk, nat_le, nat_lt, not, ◌==◌}
use Rattle.std.specs.List.{list_all}
use Rattle.vx_base.specs.Checks.{◌>>=◌, ◌unless◌}
use Rattle.vx_data.specs.Dtype.{Dtype}
use Rattle.vx_footer.specs.declared.version.FileVersion.{FileVersion}
use Rattle.vx_footer.specs.declared.write_error.WriteError.{WriteError}
use Rattle.vx_footer.specs.declared.write_error.WriteError.TheVariants.{TooManyMetadata, EmptyKey, LongKey, NotPermitted, TooDeep, TooManyTables, SegmentTooLong, OffsetOverflow, WriteFault}
use Rattle.vx_footer.specs.Opening.{most_entries, longest_key}
use Rattle.vx_footer.specs.PostscriptWritten.{FailsToWrite}
use Rattle.vx_footer.specs.Footers.{FooterContent}
use Rattle.vx_footer.specs.Serializing.{Serializing, Parts, Roots, metadata_checks, lengths_checks, keys_by, sorted_values, serializing_checks, tables_checks, roots_checks, assembling_checks, short_root, short_if, dtype_root, layout_root, has_sets, stats_root, footer_root, is_short, permits, is_shallow as are_flat, has_few_visits, roots_end, values_end}
use Rattle.vx_data.specs.LayoutIds.{used_ids}
use Rattle.vx_write.specs.Options.{Options, values_checks, keys_of, array_ids}
use Rattle.vx_write.specs.Taken.{Checked}
use Rattle.vx_write.specs.Placed.{Place}
use Rattle.vx_write.specs.Written.{may_write, plan_for, is_shallow, begin_checks, tail_bytes, tail_checks, serializing}
use Rattle.vx_write.proofs.PlacedLemmas.{fails_checked}

-- ---- checks that are no faults of a sink

err-is : {A B : Type 0} (x : WriteError) → ◌≡◌ {A = Result B WriteError} (Err x) (Err WriteFault) → ◌≡◌ {A = Result A WriteError} (Err x) (Err WriteFault)
err-is x is = cc

bind-fault : {A B : Type 0} (r : Result A WriteError) (f : A → Result B WriteError) → (r ≡ Err WriteFault → ⊥) → ((x : A) → f x ≡ Err WriteFault → ⊥) → (r >>= f) ≡ Err WriteFault → ⊥
bind-fault (Ok x) f h k = k x
bind-fault (Err e) f h k = λ is. h (err-is e is)

unless-fault : (e : WriteError) (b : Bool) → (e ≡ WriteFault → ⊥) → (e unless b) ≡ Err WriteFault → ⊥
unless-fault e true h = λ is. cc
unless-fault e false h = λ is. h (inside e is)
  where
    inside : (x : WriteError) → ◌≡◌ {A = Result (Unit {0}) WriteError} (Err x) (Err WriteFault) → x ≡ WriteFault
    inside x is = cc

ok-fault : {A : Type 0} (x : A) → ◌≡◌ {A = Result A WriteError} (Ok x) (Err WriteFault) → ⊥
ok-fault x is = cc

pub values_no_fault : (version : FileVersion) (ks : List (List ℕ)) → values_checks version ks ≡ Err WriteFault → ⊥
unfolding values_checks
values_no_fault version ks =
    bind-fault _ _ (unless-fault TooManyMetadata (nat_le (length ks) (most_entries version)) (λ is. cc))
    (λ x. bind-fault _ _ (unless-fault EmptyKey (list_all (λ k. not (length k == 0)) ks) (λ is. cc)) (λ y. unless-fault LongKey (list_all (λ k. nat_le (length k) (longest_key version)) ks) (λ is. cc)))

lengths-fault : (version : FileVersion) (ks : List (List ℕ)) → lengths_checks version ks ≡ Err WriteFault → ⊥
lengths-fault version [] = ok-fault tt
lengths-fault version (k ∷ ks) =
    bind-fault _ _ (unless-fault EmptyKey (not (length k == 0)) (λ is. cc)) (λ x. bind-fault _ _ (unless-fault LongKey (nat_le (length k) (longest_key version)) (λ is. cc)) (λ y. lengths-fault version ks))

root-fault : (bytes : List ℕ) → short_root bytes ≡ Err WriteFault → ⊥
root-fault bytes = bind-fault _ _ (unless-fault SegmentTooLong (is_short bytes) (λ is. cc)) (λ x. ok-fault bytes)

if-fault : (b : Bool) (bytes : List ℕ) → short_if b bytes ≡ Err WriteFault → ⊥
if-fault true bytes = bind-fault _ _ (root-fault bytes) (λ x. λ is. cc)
if-fault false bytes = λ is. cc

roots-fault : (excluded : Bool) (f : FooterContent) → roots_checks excluded f ≡ Err WriteFault → ⊥
unfolding roots_checks
roots-fault excluded f =
    bind-fault _ _ (if-fault (not excluded) (dtype_root f)) (λ a. bind-fault _ _ (root-fault (layout_root f))
    (λ b. bind-fault _ _ (if-fault (has_sets f.statistics) (stats_root f.statistics)) (λ c. bind-fault _ _ (root-fault (footer_root f)) (λ d. λ is. cc))))

pub serializing_no_fault : (s : Serializing) → serializing_checks s ≡ Err WriteFault → ⊥
unfolding serializing_checks tables_checks assembling_checks
serializing_no_fault s =
    let keys = keys_by s.content.metadata (sorted_values s) in
    let f = s.content in
    bind-fault _ _ (bind-fault _ _ (unless-fault TooManyMetadata (nat_le (length keys) (most_entries s.version)) (λ is. cc)) (λ x. lengths-fault s.version keys))
    (λ x. bind-fault _ _
    (bind-fault _ _ (unless-fault NotPermitted (permits s.permitted (used_ids f.layout)) (λ is. cc))
    (λ a. bind-fault _ _ (unless-fault TooDeep (are_flat s.excludes_dtype f) (λ is. cc))
    (λ b. bind-fault _ _ (unless-fault TooManyTables (has_few_visits s.excludes_dtype f) (λ is. cc)) (λ c. roots-fault s.excludes_dtype f))))
    (λ r. bind-fault _ _ (unless-fault SegmentTooLong (list_all (λ v. is_short v.1.bytes) (sorted_values s)) (λ is. cc))
    (λ a. bind-fault _ _ (unless-fault OffsetOverflow (nat_lt (roots_end (values_end s.offset (sorted_values s)) r) (2 ^ 64)) (λ is. cc)) (λ b. λ is. cc))))

pub tail_no_fault : (o : Options) (p : Place) (content : FooterContent) → tail_checks o p content ≡ Err WriteFault → ⊥
unfolding tail_checks
tail_no_fault o p content = bind-fault _ _ (serializing_no_fault (serializing o p content)) (λ parts. bind-fault _ _ (unless-fault OffsetOverflow (nat_lt (p.offset + length (tail_bytes parts)) (2 ^ 64)) (λ is. cc)) (λ x. ok-fault parts))

-- ---- the checks of a new writer

pub metadata_refused : (o : Options) (d : Dtype) (e : WriteError) → FailsToWrite e (values_checks o.version (keys_of o.metadata)) → Checked {A = Unit {0}} (Err e) (begin_checks o d)
unfolding begin_checks
metadata_refused o d e h = λ fault memory. ap (λ r. r >>= λ _. NotPermitted unless may_write (array_ids o) (plan_for o d) d >>= λ _. TooDeep unless is_shallow o d) (fails_checked (Unit {0}) e (values_checks o.version (keys_of o.metadata)) h fault memory)

pub not_permitted : (o : Options) (d : Dtype) → values_checks o.version (keys_of o.metadata) ≡ Ok tt → may_write (array_ids o) (plan_for o d) d ≡ false → begin_checks o d ≡ Err NotPermitted
unfolding begin_checks
not_permitted o d h k = rw (h, k) refl

pub too_deep : (o : Options) (d : Dtype) → values_checks o.version (keys_of o.metadata) ≡ Ok tt → may_write (array_ids o) (plan_for o d) d ≡ true → is_shallow o d ≡ false → begin_checks o d ≡ Err TooDeep
unfolding begin_checks
too_deep o d h k l = rw (h, k, l) refl

pub may_begin : (o : Options) (d : Dtype) → values_checks o.version (keys_of o.metadata) ≡ Ok tt → may_write (array_ids o) (plan_for o d) d ≡ true → is_shallow o d ≡ true → begin_checks o d ≡ Ok tt
unfolding begin_checks
may_begin o d h k l = rw (h, k, l) refl
