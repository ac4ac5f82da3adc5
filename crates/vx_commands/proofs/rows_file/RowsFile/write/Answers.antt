use Rattle.std.proofs.Common.{◌≡◌, ◌∷◌, [], ◌∙◌, ap, subst, sym}
use Rattle.std.specs.Prelude.{IfOk}
use Rattle.vx_data.specs.Dtype.{dtype_view}
use Rattle.vx_rows.specs.Rows.{Rows}
use Rattle.vx_write.specs.Chunks.{columns_seen}
use Rattle.vx_footer.specs.ReadAgain.{content_read}
use Rattle.vx_write.specs.OpensAgain.{OpensAgain}
use Rattle.vx_write.specs.RowsWritten.{pushes, RowsAnswer, RowsLeave}
use Rattle.vx_commands.specs.RowsFiles.{WritesFile}
use Rattle.vx_generate.specs.Tables.{IsTable}
use Rattle.vx_commands.specs.WriteWords.{options_of}
use Rattle.vx_commands.proofs.FileArms.{writes-file, carried}
use Rattle.vx_commands.proofs.rows_file.RowsFile.write.Goals as goal

pub returns-clause-writes : goal.returns-clause-writes
returns-clause-writes g c =
    let f = c.args.self.now in
    let before = g.S.Sink.state c.args.out.now in
    let now = g.S.Sink.state c.write_rows.new.out in
    let dtype : dtype_view c.in_ok-dtype.dtype ≡ f.table.dtype = c.in_ok-dtype.ensures ∙ c.dtype.ensures in
    let seen : columns_seen c.from_ref-chunks.result.now ≡ f.table.rows ∷ [] = ap columns_seen c.from_ref-chunks.ensures.value ∙ ap (λ (r : Rows). r ∷ []) c.rows.ensures.value in
    let table : IsTable f.table.dtype f.table.rows = subst (IsTable f.table.dtype) c.rows.ensures.value c.rows.ensures.table in
    let answer = carried (λ o d cs. RowsAnswer o d cs c.write_rows.result) _ (options_of f.arguments) _ f.table.dtype _ (f.table.rows ∷ []) c.in_ok-options.ensures dtype seen c.write_rows.ensures.answer in
    let leaves = carried (λ o d cs. RowsLeave o d cs before now c.write_rows.result) _ (options_of f.arguments) _ f.table.dtype _ (f.table.rows ∷ []) c.in_ok-options.ensures dtype seen c.write_rows.ensures.leaves in
    let opens = carried (λ o d cs. IfOk c.write_rows.result (λ s. OpensAgain o d (pushes [] cs) (content_read s.footer.content))) _ (options_of f.arguments) _ f.table.dtype _ (f.table.rows ∷ []) c.in_ok-options.ensures dtype seen c.write_rows.ensures.opens in
    subst (WritesFile f before now) (sym c.told.ensures) (writes-file f before now table c.write_rows.result answer leaves c.write_rows.ensures.cause opens)
