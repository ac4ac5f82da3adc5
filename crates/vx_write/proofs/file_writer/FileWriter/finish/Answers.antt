use Rattle.std.proofs.Common.{rules, false, ◌++◌, ◌≡◌, ◌∙◌, ◌<◌, ◌^◌, List, length, Option, Ok, Err, ap, sym, subst, refl, arith}
use Rattle.std.specs.Prelude.{IsOk}
use Rattle.vx_footer.specs.Serializers.{parts_seen}
use Rattle.vx_footer.specs.Footers.{FooterContent}
use Rattle.vx_write.specs.Chunks.{chunks_view}
use Rattle.vx_write.specs.Leaves.{rests}
use Rattle.vx_write.specs.Options.{Options}
use Rattle.vx_footer.specs.Serialized.{joined}
use Rattle.vx_write.specs.Laying.{grouped, leaf_count, AreFull}
use Rattle.vx_write.specs.Plans.{plan_view}
use Rattle.vx_write.specs.Placed.{Place, lead, Wrote, Failed}
use Rattle.vx_write.specs.Sending.{encoded_chunks, chunks_checks}
use Rattle.vx_write.specs.Taken.{TookAll, TookPart, Checked}
use Rattle.vx_write.specs.Written.{content_of, tail_bytes, written, tail_checks, end_checks, rows_after}
use Rattle.vx_write.proofs.EndLemmas.{footer_is, ok_no_error, no_memory, ends_short, ends, sent_prefix, failed_prefix, chunks_prefix, failed_checks, end_is, content_is, seen_is, leaves_are, full_is, tail_taken, tail_cut}
use Rattle.vx_write.proofs.PlacedLemmas.{fails_checked}
use Rattle.vx_write.proofs.TakenLemmas.{calm_of, calm_cause}
use Rattle.vx_write.proofs.file_writer.FileWriter.finish.Goals as goal

pub returns-in-Err-clause-finished : goal.returns-in-Err-clause-finished
returns-in-Err-clause-finished g c o d past start s =
    let state = g.S.Sink.state in
    no_memory o d past start (state c.args.out.now) (sent_prefix o d past start (state c.args.out.now).gained c.args.self s)

pub returns-in-Err-write_chunks-clause-finished : goal.returns-in-Err-write_chunks-clause-finished
returns-in-Err-write_chunks-clause-finished g c o d past start s =
    let state = g.S.Sink.state in
    let w = c.args.self in
    let before = (state c.args.out.now).gained in
    let now = state c.write_chunks.new.out in
    let p = c.write_chunks.new.output in
    let same : chunks_view c.deref.result.now ≡ rests w.held.now = ap chunks_view c.deref.ensures.value ∙ c.in-Ok.ensures.chunks in
    let failed = subst (λ cs. Failed w.output (encoded_chunks w.coding cs) before p now.gained) same c.in-Err-write_chunks.ensures.err in
    let checked = subst (λ cs. Checked {A = Unit {0}} (Err c.in-Err-write_chunks.error) (chunks_checks w.coding w.output cs)) same c.in-Err-write_chunks.ensures.checked in
    ends_short o d past start now c.in-Err-write_chunks.error (failed_prefix o d past start before now.gained w p s failed) (failed_checks o d past start before w c.in-Err-write_chunks.error s checked)

pub footer_of-requires-clause-leaves : goal.footer_of-requires-clause-leaves
footer_of-requires-clause-leaves g c = c.len-leaves.ensures ∙ leaves_are c.args.self c.requires

pub footer_of-requires-clause-full : goal.footer_of-requires-clause-full
footer_of-requires-clause-full g c =
    let state = g.S.Sink.state in
    let w = c.args.self in
    let before = (state c.args.out.now).gained in
    let now = state c.write_chunks.new.out in
    let p = c.write_chunks.new.output in
    let same : chunks_view c.deref.result.now ≡ rests w.held.now = ap chunks_view c.deref.ensures.value ∙ c.in-Ok.ensures.chunks in
    let wrote = subst (λ cs. Wrote w.output (encoded_chunks w.coding cs) before p now.gained) same c.in-Ok-write_chunks.ensures.ok in
    let fine : w.failed ≡ false = search rules in
    subst (λ ls. AreFull w.rows (grouped (leaf_count (plan_view w.plan)) ls)) (sym c.laid.ensures) (full_is w before now.gained p c.requires fine wrote)

pub footer_of-requires-clause-few : goal.footer_of-requires-clause-few
footer_of-requires-clause-few g c = omega (arith, ap length c.laid.ensures, c.in-Ok-write_chunks.ensures.ok.alive.few)

pub returns-in-Err-footer_of-clause-finished : goal.returns-in-Err-footer_of-clause-finished
returns-in-Err-footer_of-clause-finished g c o d past start s =
    let state = g.S.Sink.state in
    let w = c.args.self in
    let before = (state c.args.out.now).gained in
    let now = state c.write_chunks.new.out in
    let p = c.write_chunks.new.output in
    let same : chunks_view c.deref.result.now ≡ rests w.held.now = ap chunks_view c.deref.ensures.value ∙ c.in-Ok.ensures.chunks in
    let wrote = subst (λ cs. Wrote w.output (encoded_chunks w.coding cs) before p now.gained) same c.in-Ok-write_chunks.ensures.ok in
    no_memory o d past start now (chunks_prefix o d past start before now.gained w p s wrote)

pub returns-in-Err-serialized-clause-finished : goal.returns-in-Err-serialized-clause-finished
returns-in-Err-serialized-clause-finished g c o d past start s =
    let state = g.S.Sink.state in
    let w = c.args.self in
    let before = (state c.args.out.now).gained in
    let now = state c.write_chunks.new.out in
    let p = c.write_chunks.new.output in
    let same : chunks_view c.deref.result.now ≡ rests w.held.now = ap chunks_view c.deref.ensures.value ∙ c.in-Ok.ensures.chunks in
    let wrote = subst (λ cs. Wrote w.output (encoded_chunks w.coding cs) before p now.gained) same c.in-Ok-write_chunks.ensures.ok in
    let ok = subst (λ cs. IsOk (chunks_checks w.coding w.output cs)) same c.in-Ok-write_chunks.ensures.checked in
    let e = c.in-Err-serialized.error in
    let content = c.in-Ok-footer_of.footer.content in
    let is = footer_is o d past start before now.gained w p c.laid.result.now _ content s wrote c.laid.ensures c.ids.ensures.value (c.in-Ok-footer_of.ensures (rows_after d past) (seen_is o d past start before w s)) in
    let end = end_is o d past start before now.gained w p content s wrote ok is in
    let told : tail_checks w.options p content ≡ tail_checks o p content = ap (λ (q : Options). tail_checks q p content) s.options in
    ends_short o d past start now e (chunks_prefix o d past start before now.gained w p s wrote)
    (λ fault memory. end ∙ sym told ∙ fails_checked (Unit {0}) e (tail_checks w.options p content) (c.in-Err-serialized.ensures.value p c.offset.ensures) fault memory)

pub returns-in-Err-serialized-clause-cause : goal.returns-in-Err-serialized-clause-cause
returns-in-Err-serialized-clause-cause g c =
    let state = g.S.Sink.state in
    calm_cause (state c.args.out.now) (state c.write_chunks.new.out) _ (calm_of _ _ _ c.in-Ok-write_chunks.ensures.cause) (λ is. c.in-Err-serialized.ensures.fault cc)

pub returns-in-Ok-write_tail-clause-finished : goal.returns-in-Ok-write_tail-clause-finished
returns-in-Ok-write_tail-clause-finished g c o d past start s =
    let state = g.S.Sink.state in
    let w = c.args.self in
    let before = (state c.args.out.now).gained in
    let middle = (state c.write_chunks.new.out).gained in
    let now = state c.write_tail.new.out in
    let p = c.write_chunks.new.output in
    let same : chunks_view c.deref.result.now ≡ rests w.held.now = ap chunks_view c.deref.ensures.value ∙ c.in-Ok.ensures.chunks in
    let wrote = subst (λ cs. Wrote w.output (encoded_chunks w.coding cs) before p middle) same c.in-Ok-write_chunks.ensures.ok in
    let ok = subst (λ cs. IsOk (chunks_checks w.coding w.output cs)) same c.in-Ok-write_chunks.ensures.checked in
    let content = c.in-Ok-footer_of.footer.content in
    let is = footer_is o d past start before middle w p c.laid.result.now _ content s wrote c.laid.ensures c.ids.ensures.value (c.in-Ok-footer_of.ensures (rows_after d past) (seen_is o d past start before w s)) in
    let end = end_is o d past start before middle w p content s wrote ok is in
    let told : tail_checks w.options p content ≡ tail_checks o p content = ap (λ (q : Options). tail_checks q p content) s.options in
    let parts = parts_seen c.in-Ok-serialized.serialized in
    let checks : end_checks o d past ≡ Ok parts = end ∙ sym told ∙ c.in-Ok-serialized.ensures.value p c.offset.ensures in
    let bytes : tail_bytes parts ≡ joined c.deref-2.result.now = c.in-Ok-serialized.ensures.bytes ∙ sym (ap joined c.deref-2.ensures.value) in
    let taken : TookAll (lead p.taken ++ joined c.deref-2.result.now) middle now.gained p.taken c.write_tail.new.taken =
    subst (λ n. TookAll (lead n ++ joined c.deref-2.result.now) middle now.gained n c.write_tail.new.taken) c.taken-size.ensures c.in-Ok-write_tail.ensures.ok in
    ends o d past start now c.new.result parts
    (subst (λ n. TookAll (written o d past) start now.gained 0 n) (sym c.new.ensures.size) (tail_taken o d past start before middle now.gained w p parts (joined c.deref-2.result.now) c.write_tail.new.taken s wrote checks bytes taken))
    c.in-Ok-write_tail.ensures.flushed checks (ap (λ f. f.content) c.new.ensures.footer) (c.new.ensures.rows ∙ s.rows)

pub returns-clause-finished : goal.returns-clause-finished
returns-clause-finished g c o d past start s =
    let state = g.S.Sink.state in
    let w = c.args.self in
    let before = (state c.args.out.now).gained in
    let middle = (state c.write_chunks.new.out).gained in
    let now = state c.write_tail.new.out in
    let p = c.write_chunks.new.output in
    let same : chunks_view c.deref.result.now ≡ rests w.held.now = ap chunks_view c.deref.ensures.value ∙ c.in-Ok.ensures.chunks in
    let wrote = subst (λ cs. Wrote w.output (encoded_chunks w.coding cs) before p middle) same c.in-Ok-write_chunks.ensures.ok in
    let ok = subst (λ cs. IsOk (chunks_checks w.coding w.output cs)) same c.in-Ok-write_chunks.ensures.checked in
    let content = c.in-Ok-footer_of.footer.content in
    let is = footer_is o d past start before middle w p c.laid.result.now _ content s wrote c.laid.ensures c.ids.ensures.value (c.in-Ok-footer_of.ensures (rows_after d past) (seen_is o d past start before w s)) in
    let end = end_is o d past start before middle w p content s wrote ok is in
    let told : tail_checks w.options p content ≡ tail_checks o p content = ap (λ (q : Options). tail_checks q p content) s.options in
    let parts = parts_seen c.in-Ok-serialized.serialized in
    let checks : end_checks o d past ≡ Ok parts = end ∙ sym told ∙ c.in-Ok-serialized.ensures.value p c.offset.ensures in
    let bytes : tail_bytes parts ≡ joined c.deref-2.result.now = c.in-Ok-serialized.ensures.bytes ∙ sym (ap joined c.deref-2.ensures.value) in
    let taken : TookPart (lead p.taken ++ joined c.deref-2.result.now) middle now.gained p.taken c.write_tail.new.taken =
    subst (λ n. TookPart (lead n ++ joined c.deref-2.result.now) middle now.gained n c.write_tail.new.taken) c.taken-size.ensures c.in-Err-write_tail.ensures.err in
    ends_short o d past start now c.in-Err-write_tail.error (tail_cut o d past start before middle now.gained w p parts (joined c.deref-2.result.now) c.write_tail.new.taken s wrote checks bytes taken)
    (λ fault memory. absurd (ok_no_error c.in-Err-write_tail.error (c.in-Err-write_tail.ensures.only fault memory)))
