-- A column that is cut, and the rows that it leaves.
use Rattle.std.proofs.Common.{◌≡◌, ℕ, ◌-◌, ◌/◌, ◌≤◌, List, [], ◌∷◌, ◌++◌, refl, ap, ap₂, sym, ◌∙◌, subst, arith}
use Rattle.std.proofs.Math.Nat.{mul-div-le}
use Rattle.vx_rows.specs.Rows.{Rows, rows_len}
use Rattle.vx_rows.specs.Parts.{part}
use Rattle.vx_write.specs.declared.gathering.Gathered.TheVariants.{Full, Open}
use Rattle.vx_write.specs.Cutting.{Cut, cut_blocks, nothing_full, with_chunk, with_chunks}
use Rattle.vx_write.specs.Gathering.{gathered_from}
use Rattle.vx_write.specs.CutParts.{parts_from}
use Rattle.vx_write.proofs.GatherLemmas.{Cuts, FillsAt, gather_cuts}
use Rattle.vx_write.proofs.HeldLemmas.{blocks_are}
use Rattle.vx_write.proofs.PartsLemmas.{last_end, parts_more}

-- ---- chunks of a column, one after the other

chunks_more : (cs : List Rows) (c : Rows) (x : Cut) → with_chunks (cs ++ c ∷ []) x ≡ with_chunks cs (with_chunk c x)
chunks_more [] c x = refl
chunks_more (d ∷ cs) c x = ap (with_chunk d) (chunks_more cs c x)

pub cut_turn : (rows target : ℕ) (c : Rows) (start end : ℕ) (ends ends' : List ℕ) → 1 ≤ rows → start ≤ rows_len c
    → Full end ≡ gathered_from rows target c 0 start ((rows_len c - start) / rows) → ends' ≡ ends ++ end ∷ [] → last_end 0 ends ≡ start
    → with_chunks (parts_from c 0 ends') (cut_blocks rows target c end 0 end ((rows_len c - end) / rows))
    ≡ with_chunks (parts_from c 0 ends) (cut_blocks rows target c start 0 start ((rows_len c - start) / rows))
cut_turn rows target c start end ends ends' h o g more last =
    by (subst (Cuts rows target c 0 start ((rows_len c - start) / rows)) (sym g) (gather_cuts rows target c h ((rows_len c - start) / rows) 0 start))
  where
    by : FillsAt rows target c 0 start ((rows_len c - start) / rows) end
        → with_chunks (parts_from c 0 ends') (cut_blocks rows target c end 0 end ((rows_len c - end) / rows))
        ≡ with_chunks (parts_from c 0 ends) (cut_blocks rows target c start 0 start ((rows_len c - start) / rows))
    by f =
        let place = f.place in
        let within = mul-div-le (rows_len c - start) rows in
        let inside : end ≤ rows_len c = omega (arith, place, within, o) in
        let many : (rows_len c - end) / rows ≡ f.left = blocks_are rows (rows_len c - start) f.left (rows_len c - end) h (omega (arith, place, inside, o)) in
        ap₂ (λ x m. with_chunks x (cut_blocks rows target c end 0 end m)) (ap (parts_from c 0) more ∙ parts_more c 0 ends end ∙ ap (λ s. parts_from c 0 ends ++ part s end c ∷ []) last)
        many
        ∙ chunks_more (parts_from c 0 ends) (part start end c) (cut_blocks rows target c end 0 end f.left)
        ∙ ap (with_chunks (parts_from c 0 ends)) (sym (f.chunk start))

chunks_are : (cs : List Rows) (start gathered : ℕ) → record { chunks = cs; start = start; gathered = gathered } ≡ with_chunks cs (nothing_full start gathered)
chunks_are [] start gathered = refl
chunks_are (c ∷ cs) start gathered = ap (with_chunk c) (chunks_are cs start gathered)

pub cut_last : (rows target : ℕ) (c : Rows) (start gathered : ℕ) (cs : List Rows) → 1 ≤ rows → Open gathered ≡ gathered_from rows target c 0 start ((rows_len c - start) / rows)
    → record { chunks = cs; start = start; gathered = gathered } ≡ with_chunks cs (cut_blocks rows target c start 0 start ((rows_len c - start) / rows))
cut_last rows target c start gathered cs h g =
    let last = subst (Cuts rows target c 0 start ((rows_len c - start) / rows)) (sym g) (gather_cuts rows target c h ((rows_len c - start) / rows) 0 start) in
    chunks_are cs start gathered ∙ ap (with_chunks cs) (sym (last start))
