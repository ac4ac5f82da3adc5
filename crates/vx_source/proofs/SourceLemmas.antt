-- A session with its reader and its cache, which stands for some history: what holds of every history then.
use Rattle.std.proofs.Common.{◌≡◌, ℕ, List, [], ◌∷◌, Some, refl, sym, ◌∙◌, subst}
use Rattle.std.specs.Coded.{Coded, code_by, coded×, le_prop, coded_ℕ, coded_list, Unit-prop}
use mathlib.Core.HLevel.{×_prop, ⊥_prop, Π_prop}
use mathlib.Core.Logic.{∥∥₁_elim, ∥∥₁_map, ∥∥₁_prop}
use base.Stored.{Coded-set}
use Rattle.vx_base.specs.Counts.{Rises}
use Rattle.vx_base.specs.declared.segment.SegmentId.{SegmentId}
use Rattle.vx_base.specs.declared.segment.SegmentSpec.{SegmentSpec}
use Rattle.vx_base.specs.Caches.{CacheState}
use Rattle.vx_base.specs.Readers.{ReaderState}
use Rattle.vx_source.specs.Bytes.{HasBytes, TellsSlices}
use Rattle.vx_source.specs.Fetching.{IsAnswer, AreAnswers, HasSlice, HaveSlices}
use Rattle.vx_source.specs.Fits.{World}
use Rattle.vx_source.specs.History.{Moment}
use Rattle.vx_source.specs.Kept.{Kept}
use Rattle.vx_source.specs.Sources.{HasHistory, AreOfFile}
use Rattle.vx_source.specs.Stands.{Stands}
use Rattle.vx_source.specs.declared.reply.FailCause.TheVariants.{Fault, Cache}
use Rattle.vx_source.specs.declared.reply.Reply.{Reply}
use Rattle.vx_source.specs.declared.reply.Reply.TheVariants.{Registered, MissingSegment, Ready, Pending, Failed, Dropped, NotLive, Driven}
use Rattle.vx_source.specs.declared.span.Span.{Span}

rises-prop : (by before now : ℕ) → IsProp (Rises by before now)
rises-prop by before now a b = λ i. record { later = le_prop a.later b.later i; risen = le_prop a.risen b.risen i }

answer-prop : (table : List SegmentSpec) (spans : List Span) (s : ℕ) (reply : Reply) → IsProp (IsAnswer table spans s reply)
answer-prop table spans s (Registered m held) = ⊥_prop
answer-prop table spans s MissingSegment = le_prop
answer-prop table spans s (Ready buffer) = le_prop
answer-prop table spans s Pending = ⊥_prop
answer-prop table spans s (Failed (Fault fault)) = ×_prop le_prop le_prop
answer-prop table spans s (Failed Cache) = le_prop
answer-prop table spans s Dropped = ⊥_prop
answer-prop table spans s NotLive = ⊥_prop
answer-prop table spans s (Driven more) = ⊥_prop

answers-prop : (table : List SegmentSpec) (spans : List Span) (ids : List SegmentId) (replies : List Reply) → IsProp (AreAnswers table spans ids replies)
answers-prop table spans [] [] = Unit-prop
answers-prop table spans [] (reply ∷ more) = ⊥_prop
answers-prop table spans (id ∷ rest) [] = ⊥_prop
answers-prop table spans (id ∷ rest) (reply ∷ more) = ×_prop (answer-prop table spans id.0 reply) (answers-prop table spans rest more)

has-slice-prop : (file : List ℕ) (table : List SegmentSpec) (s : ℕ) (reply : Reply) → IsProp (HasSlice file table s reply)
has-slice-prop file table s (Registered m held) = Unit-prop
has-slice-prop file table s MissingSegment = Unit-prop
has-slice-prop file table s (Ready buffer) = Π_prop (λ spec. Π_prop (λ e. Coded-set (coded_list coded_ℕ) _ _))
has-slice-prop file table s Pending = Unit-prop
has-slice-prop file table s (Failed cause) = Unit-prop
has-slice-prop file table s Dropped = Unit-prop
has-slice-prop file table s NotLive = Unit-prop
has-slice-prop file table s (Driven more) = Unit-prop

slices-prop : (file : List ℕ) (table : List SegmentSpec) (ids : List SegmentId) (replies : List Reply) → IsProp (HaveSlices file table ids replies)
slices-prop file table [] replies = Unit-prop
slices-prop file table (id ∷ rest) [] = Unit-prop
slices-prop file table (id ∷ rest) (reply ∷ more) = ×_prop (has-slice-prop file table id.0 reply) (slices-prop file table rest more)

-- a segment's place as numbers
coded_spec : Coded SegmentSpec
coded_spec = code_by (ℕ × (ℕ × ℕ)) (coded× coded_ℕ (coded× coded_ℕ coded_ℕ)) (λ s. (s.offset, (s.length, s.alignment))) (λ p. record { offset = p.0; length = p.1.0; alignment = p.1.1 }) (λ _. refl)

table-prop : (a b : List SegmentSpec) → IsProp (a ≡ b)
table-prop a b = Coded-set (coded_list coded_spec) a b

-- what holds for each history that a session stands for holds of it
module _ (k : Kept) (history : HasHistory k) where
  pub answers-all : (spans : List Span) (ids : List SegmentId) (replies : List Reply) → ((w : World) (past : List Moment) → Stands w past k → AreAnswers w.table spans ids replies) → AreAnswers k.table spans ids replies
  answers-all spans ids replies h = ∥∥₁_elim history (answers-prop k.table spans ids replies) (λ x. subst (λ t. AreAnswers t spans ids replies) (sym x.2.table) (h x.0 x.1 x.2))

  pub rises-all : (by before now : ℕ) → ((w : World) (past : List Moment) → Stands w past k → Rises by before now) → Rises by before now
  rises-all by before now h = ∥∥₁_elim history (rises-prop by before now) (λ x. h x.0 x.1 x.2)

  pub slices-all : (file : List ℕ) (ids : List SegmentId) (replies : List Reply) → ((w : World) (past : List Moment) → Stands w past k → HaveSlices file w.table ids replies) → HaveSlices file k.table ids replies
  slices-all file ids replies h = ∥∥₁_elim history (slices-prop file k.table ids replies) (λ x. subst (λ t. HaveSlices file t ids replies) (sym x.2.table) (h x.0 x.1 x.2))

  pub same-all : (a b : ℕ) → ((w : World) (past : List Moment) → Stands w past k → a ≡ b) → a ≡ b
  same-all a b h = ∥∥₁_elim history (Coded-set coded_ℕ a b) (λ x. h x.0 x.1 x.2)

  -- a session that stands for a history of the same world has the same table
  pub table-all : (k' : Kept) → ((w : World) (past : List Moment) → Stands w past k → (now : List Moment) × Stands w now k') → k'.table ≡ k.table
  table-all k' h = ∥∥₁_elim history (table-prop k'.table k.table) (λ x. (h x.0 x.1 x.2).1.table ∙ sym x.2.table)

  pub history-then : (k' : Kept) → ((w : World) (past : List Moment) → Stands w past k → (now : List Moment) × Stands w now k') → HasHistory k'
  history-then k' h = ∥∥₁_map history (λ x. let s = h x.0 x.1 x.2 in (x.0, s.0, s.1))

-- ---- the file of a source

module _ (file : List ℕ) (k k1 : Kept) (reader : ReaderState) (cache : CacheState) (history : HasHistory k1) (table : k1.table ≡ k.table) (bytes : HasBytes file k → HasBytes file k1) where
  pub file-slices : (ids : List SegmentId) (replies : List Reply)
      → ((w : World) (past : List Moment) → reader.bytes ≡ Some file → Stands w past k1 → HasBytes file k1 → TellsSlices file w.table cache → HaveSlices file w.table ids replies)
      → AreOfFile k reader cache file → HaveSlices file k.table ids replies
  file-slices ids replies h all = ∥∥₁_elim all (slices-prop file k.table ids replies) (λ x. subst (λ t. HaveSlices file t ids replies) table
      (slices-all k1 history file ids replies (λ w past st. h w past x.told st (bytes x.bytes) (subst (λ t. TellsSlices file t cache) (sym table ∙ st.table) x.slices))))

  pub file-then : (k2 : Kept) (reader' : ReaderState) (cache' : CacheState) → reader'.bytes ≡ reader.bytes → ((w : World) (past : List Moment) → Stands w past k1 → (now : List Moment) × Stands w now k2)
      → ((w : World) (past : List Moment) → reader.bytes ≡ Some file → Stands w past k1 → HasBytes file k1 → TellsSlices file w.table cache → HasBytes file k2 × TellsSlices file w.table cache')
      → AreOfFile k reader cache file → AreOfFile k2 reader' cache' file
  file-then k2 reader' cache' same stands h all = ∥∥₁_elim all ∥∥₁_prop (λ x. ∥∥₁_map history (λ y.
      let b = h y.0 y.1 x.told y.2 (bytes x.bytes) (subst (λ t. TellsSlices file t cache) (sym table ∙ y.2.table) x.slices) in
      record { told = same ∙ x.told; bytes = b.0; slices = subst (λ t. TellsSlices file t cache') (sym (stands y.0 y.1 y.2).1.table) b.1 }))
