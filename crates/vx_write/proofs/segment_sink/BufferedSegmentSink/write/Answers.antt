use Rattle.std.proofs.Common.{rules, ◌≡◌, ◌++◌, ◌∷◌, [], ◌+◌, ◌≤◌, true, length, Err, refl, sym, ap, subst, ◌∙◌, arith}
use Rattle.vx_base.specs.declared.segment.SegmentSpec.{SegmentSpec}
use Rattle.vx_footer.specs.Serialized.{joined}
use Rattle.vx_footer.specs.PostscriptWritten.{FailsToWrite}
use Rattle.vx_footer.specs.declared.write_error.WriteError.TheVariants.{WriteFault, OutOfMemory}
use Rattle.vx_write.specs.Sinks.{Segments, are_laid, zeros_before, behind, place_checks, WritesSegment}
use Rattle.vx_write.proofs.Laid.{laid_push}
use Rattle.vx_write.proofs.SinkLemmas.{refused, nothing, no_write_fault}
use Rattle.vx_write.proofs.segment_sink.BufferedSegmentSink.write.Goals as goal

pub returns-in_err-placing-clause-cause : goal.returns-in_err-placing-clause-cause
returns-in_err-placing-clause-cause g c =
    let state = g.O.Sink.state c.args.out.now in
    let is : c.from_residual.result ≡ Err c.in_err-placing.field-0.0 = search rules in
    let inside : Segments = record { specs = c.self.inside.specs.items; offset = c.self.inside.offset } in
    let same : inside ≡ c.args.self.now = search rules in
    let many : c.len.result ≡ length c.self.inside.specs.items = search rules in
    let checked = subst (λ s. FailsToWrite c.in_err-placing.field-0.0 (place_checks c.args.buffers.now s)) same (c.in_err-placing.ensures.checked c.self.inside.specs.items many) in
    subst (λ r. WritesSegment c.args.buffers.now c.args.self.now c.args.self.now state state r) (sym is)
    (refused c.in_err-placing.field-0.0 c.args.buffers.now c.args.self.now c.args.self.now state state checked refl refl)

pub returns-in_err-placing-clause-sound : goal.returns-in_err-placing-clause-sound
returns-in_err-placing-clause-sound g c = λ sound.
    let is : c.from_residual.result ≡ Err c.in_err-placing.field-0.0 = search rules in
    let inside : Segments = record { specs = c.self.inside.specs.items; offset = c.self.inside.offset } in
    let same : inside ≡ c.args.self.now = search rules in
    let many : c.len.result ≡ length c.self.inside.specs.items = search rules in
    let checked = subst (λ s. FailsToWrite c.in_err-placing.field-0.0 (place_checks c.args.buffers.now s)) same (c.in_err-placing.ensures.checked c.self.inside.specs.items many) in
    (λ fault. let whole = sym is ∙ fault in no_write_fault c.in_err-placing.field-0.0 c.args.buffers.now c.args.self.now checked cc, refl)

pub returns-in_err-zeros-clause-cause : goal.returns-in_err-zeros-clause-cause
returns-in_err-zeros-clause-cause g c =
    let state = g.O.Sink.state c.args.out.now in
    let is : c.from_residual-in_err-zeros.result ≡ Err OutOfMemory = search rules in
    subst (λ r. WritesSegment c.args.buffers.now c.args.self.now c.args.self.now state state r) (sym is) (nothing c.args.buffers.now c.args.self.now c.args.self.now state state refl refl)

pub returns-in_err-pieces-clause-cause : goal.returns-in_err-pieces-clause-cause
returns-in_err-pieces-clause-cause g c =
    let state = g.O.Sink.state c.args.out.now in
    let is : c.from_residual-in_err-pieces.result ≡ Err OutOfMemory = search rules in
    subst (λ r. WritesSegment c.args.buffers.now c.args.self.now c.args.self.now state state r) (sym is) (nothing c.args.buffers.now c.args.self.now c.args.self.now state state refl refl)

pub returns-in_err-reserve-clause-cause : goal.returns-in_err-reserve-clause-cause
returns-in_err-reserve-clause-cause g c =
    let state = g.O.Sink.state c.args.out.now in
    let is : c.from_residual-in_err-reserve.result ≡ Err OutOfMemory = search rules in
    let now : Segments = record { specs = c.reserve.new.self.items; offset = c.self.inside.offset } in
    let same : now ≡ c.args.self.now = search rules in
    subst (λ r. WritesSegment c.args.buffers.now c.args.self.now now state state r) (sym is) (nothing c.args.buffers.now c.args.self.now now state state same refl)

pub invariant_of-self-2 : goal.invariant_of-self-2
invariant_of-self-2 g c =
    let p = c.in_ok-placing.placing in
    let made = c.in_ok-placing.ensures in
    let s = c.args.self.now in
    let bs = c.args.buffers.now in
    let items : c.push_reserved.new.self.items ≡ s.specs ++ p.spec ∷ [] = search rules in
    let start : c.self.inside.offset ≡ s.offset = search rules in
    let laid : are_laid 0 s.specs s.offset ≡ true = search rules in
    let offset : p.spec.offset ≡ s.offset + zeros_before s.offset bs = subst (λ o. p.spec.offset ≡ o + zeros_before o bs) start (ap (λ (x : SegmentSpec). x.offset) made.spec) in
    let size : p.spec.length ≡ length (joined bs) = ap (λ (x : SegmentSpec). x.length) made.spec in
    let next : p.next ≡ behind s.offset bs = subst (λ o. p.next ≡ behind o bs) start made.next in
    subst (λ ss. are_laid 0 ss p.next ≡ true) (sym items) (laid_push 0 s.specs s.offset p.spec p.next laid (omega (arith, offset)) made.aligned (omega (arith, offset, size, next)))
