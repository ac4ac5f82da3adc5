use Rattle.std.proofs.Common.{◌≡◌, ℕ, ap, sym, Err, inr, ◌∙◌, take, subst, [], ◌∷◌, ◌++◌}
use Rattle.std.specs.Prelude.{map, string_bytes}
use Rattle.vx_data.specs.Layout.{dtype_of as type_of_tree}
use Rattle.vx_rows.specs.LayoutRows.{joined}
use Rattle.vx_rows.specs.Rows.{column_view}
use Rattle.vx_file.specs.MultiFiles.{AsksForAll}
use Rattle.vx_file.specs.Scans.{AreChunks, seen}
use Rattle.vx_file.proofs.MultiLemmas.{moved_stops, moved_read, chunks_joined}
use Rattle.vx_file.proofs.multi_file.MultiLayoutDataSource.rows.Goals as goal

pub returns-in-Err-read_all-clause-fails : goal.returns-in-Err-read_all-clause-fails
returns-in-Err-read_all-clause-fails g c = λ e is.
    let same : c.in-Err-read_all.error ≡ e = cc in
    inr (moved_stops _ _ _ _ _ _ _ e (c.in_ok-like.ensures.typed ∙ c.dtype.ensures) (ap (map string_bytes) c.as_slice.ensures.value) (c.in-Err-read_all.ensures.stops e (ap Err same)))

pub returns-in-Err-read_all-clause-asked : goal.returns-in-Err-read_all-clause-asked
returns-in-Err-read_all-clause-asked g c =
    let state = g.F.Opener.state in
    subst (λ ns. (k : ℕ) × AsksForAll (take k (map string_bytes ns)) (state c.args.files.now) (state c.read_all.new.files)) c.as_slice.ensures.value c.read_all.ensures.asked

pub join-requires : goal.join-requires
join-requires g c =
    let d = type_of_tree c.args.self.now.footer.content.layout in
    let front = column_view c.in-Ok.rows in
    let grown : seen c.add.new.columns.items ≡ front ∷ [] = c.in_ok-add.ensures ∙ ap (λ xs. seen xs ++ front ∷ []) c.new-columns.ensures.items in
    let r = c.in-Ok-read_all.ensures.reads in
    let chunks : AreChunks d (seen c.read_all.new.columns.items) = chunks_joined _ _ _ _ _ d front (seen c.read_all.new.columns.items) (c.in_ok-like.ensures.typed ∙ c.dtype.ensures)
    c.in-Ok.ensures.rows.typed c.in-Ok.ensures.rows.sound (r.0, r.1 ∙ ap (λ xs. xs ++ r.0) grown, r.2) in
    subst (λ x. AreChunks x (seen c.read_all.new.columns.items)) (sym c.dtype-2.ensures) chunks

pub returns-in_err-join-clause-asked : goal.returns-in_err-join-clause-asked
returns-in_err-join-clause-asked g c =
    let state = g.F.Opener.state in
    subst (λ ns. (k : ℕ) × AsksForAll (take k (map string_bytes ns)) (state c.args.files.now) (state c.read_all.new.files)) c.as_slice.ensures.value c.read_all.ensures.asked

pub returns-clause-rows : goal.returns-clause-rows
returns-clause-rows g c =
    let d = type_of_tree c.args.self.now.footer.content.layout in
    let front = column_view c.in-Ok.rows in
    let grown : seen c.add.new.columns.items ≡ front ∷ [] = c.in_ok-add.ensures ∙ ap (λ xs. seen xs ++ front ∷ []) c.new-columns.ensures.items in
    let r = c.in-Ok-read_all.ensures.reads in
    let whole = c.in_ok-join.ensures ∙ (ap (λ x. joined x (seen c.read_all.new.columns.items)) c.dtype-2.ensures ∙ ap (joined d) (r.1 ∙ ap (λ xs. xs ++ r.0) grown)) in
    (front, r.0, c.in-Ok.ensures.rows, moved_read _ _ _ _ _ _ _ _ (c.in_ok-like.ensures.typed ∙ c.dtype.ensures) (ap (map string_bytes) c.as_slice.ensures.value) r.2, whole)

pub returns-clause-all : goal.returns-clause-all
returns-clause-all g c =
    let state = g.F.Opener.state in
    subst (λ ns. AsksForAll (map string_bytes ns) (state c.args.files.now) (state c.read_all.new.files)) c.as_slice.ensures.value c.in-Ok-read_all.ensures.all

pub returns-clause-asked : goal.returns-clause-asked
returns-clause-asked g c =
    let state = g.F.Opener.state in
    subst (λ ns. (k : ℕ) × AsksForAll (take k (map string_bytes ns)) (state c.args.files.now) (state c.read_all.new.files)) c.as_slice.ensures.value c.read_all.ensures.asked
