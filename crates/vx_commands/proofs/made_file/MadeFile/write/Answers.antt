use Rattle.std.proofs.Common.{rules, ◌≡◌, ◌∷◌, [], Some, Ok, Err, ap, refl, subst}
use Rattle.vx_base.specs.Memory.{MemSinkState, sink_state}
use Rattle.vx_data.specs.Dtype.{dtype_view}
use Rattle.vx_footer.specs.ReadAgain.{content_read}
use Rattle.vx_footer.specs.declared.write_error.WriteError.TheVariants.{WriteFault, OutOfMemory}
use Rattle.vx_rows.specs.Rows.{column_view}
use Rattle.vx_write.specs.Chunks.{columns_seen}
use Rattle.vx_write.specs.OpensAgain.{OpensAgain}
use Rattle.vx_write.specs.RowsWritten.{pushes, RowsAnswer, RowsLeave}
use Rattle.vx_write.specs.declared.summary.WriteSummary.{WriteSummary}
use Rattle.vx_commands.proofs.MadeArms.{is-made, not-made}
use Rattle.vx_commands.proofs.made_file.MadeFile.write.Goals as goal

pub returns-in-Ok : goal.returns-in-Ok
returns-in-Ok c =
    let o = c.args.options in
    let d = dtype_view c.args.dtype in
    let before = sink_state c.new-out.result in
    let now = sink_state c.write_rows.new.out in
    let s = c.in-Ok.summary in
    let seen : columns_seen c.from_ref.result.now ≡ column_view c.args.rows.now ∷ [] = ap columns_seen c.from_ref.ensures.value in
    let none : before.gained ≡ Some [] = ap (λ (m : MemSinkState). Some m.gained) c.new-out.ensures in
    let answer = subst (λ cs. RowsAnswer o d cs (Ok s)) seen c.in-Ok.ensures.answer in
    let leaves = subst (λ cs. RowsLeave o d cs before now (Ok s)) seen c.in-Ok.ensures.leaves in
    let opens = subst (λ cs. OpensAgain o d (pushes [] cs) (content_read s.footer.content)) seen c.in-Ok.ensures.opens in
    is-made o d (column_view c.args.rows.now) before now c.write_rows.new.out.gained c.into_bytes.result s c.requires none refl c.into_bytes.ensures answer leaves opens

pub returns : goal.returns
returns c =
    let o = c.args.options in
    let d = dtype_view c.args.dtype in
    let e = c.in-Err.error in
    let seen : columns_seen c.from_ref.result.now ≡ column_view c.args.rows.now ∷ [] = ap columns_seen c.from_ref.ensures.value in
    let answer = subst (λ cs. RowsAnswer {A = WriteSummary} o d cs (Err e)) seen c.in-Err.ensures.answer in
    let no_fault : e ≡ WriteFault → ⊥ = search rules in
    let no_memory : e ≡ OutOfMemory → ⊥ = search rules in
    not-made o d (column_view c.args.rows.now) e c.requires answer no_fault no_memory
