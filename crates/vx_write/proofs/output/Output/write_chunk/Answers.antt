use Rattle.std.proofs.Common.{rules, arith, subst, ◌<◌, ◌-◌, ◌^◌, ◌≡◌, ◌++◌, ◌∷◌, [], List, length, map}
use Rattle.vx_base.specs.declared.segment.SegmentSpec.{SegmentSpec}
use Rattle.vx_write.specs.declared.laid_chunk.Laid.{Laid}
use Rattle.vx_write.specs.Placed.{Place, Encoded, piece}
use Rattle.vx_write.specs.Sinks.{spec_of, behind}
use Rattle.vx_write.specs.Taken.{TookAll}
use Rattle.vx_write.proofs.PlacedLemmas.{wrote_one, specs_many}
use Rattle.vx_write.proofs.SinkLemmas.{no_write_fault}
use Rattle.vx_write.proofs.TakenLemmas.{calm_start, calm_cause}
use Rattle.vx_write.proofs.output.Output.write_chunk.Goals as goal

pub returns-in-Err-clause-cause : goal.returns-in-Err-clause-cause
returns-in-Err-clause-cause g c =
    let state = g.S.Sink.state c.args.out.now in
    let specs : List SegmentSpec = map (λ (l : Laid). l.spec) c.self.inside.laid.items in
    let many : c.len.result ≡ length specs = specs_many c.self.inside.laid.items c.len.result (omega arith) in
    calm_cause state state _ (calm_start state) (λ is. no_write_fault c.in-Err.error c.one-buffers.result.now (record { specs = specs; offset = c.self.inside.offset }) (c.in-Err.ensures.checked specs many) cc)

pub returns-clause-ok : goal.returns-clause-ok
returns-clause-ok g c =
    let state = g.S.Sink.state in
    let p = c.args.self.now in
    let e : Encoded = record { leaf = c.args.leaf; rows = c.args.rows; buffer = c.args.buffer.now } in
    let now : Place = record { laid = c.push_reserved.new.self.items; offset = c.in-Ok.placing.next; taken = c.write_one.new.taken } in
    let took : TookAll (piece p e) (state c.args.out.now).gained (state c.write_one.new.out).gained p.taken now.taken = search rules in
    let laid : now.laid ≡ p.laid ++ record { spec = spec_of p.offset (e.buffer ∷ []); leaf = e.leaf; rows = e.rows } ∷ [] = search rules in
    let offset : now.offset ≡ behind p.offset (e.buffer ∷ []) = search rules in
    let few : length c.self.inside.laid.items < 2 ^ 32 - 1 = omega (arith, c.in-Ok.ensures.few) in
    wrote_one p now e (state c.args.out.now).gained (state c.write_one.new.out).gained c.requires (subst (λ (q : Place). length q.laid < 2 ^ 32 - 1) c.self.view_is few) took laid offset
