use Rattle.std.proofs.Common.{arith, ◌+◌, ◌≤◌, ◌++◌, length, take, sym, ap, subst, ◌∙◌}
use Rattle.vx_text.proofs.RoomLemmas.{vector-behind}
use Rattle.vx_text.proofs.room.Room.put_vector.Goals as goal

pub returns : goal.returns
returns c =
    let room : length (take c.self.inside.len c.self.inside.cells) + 32 ≤ 32768 = subst (λ held. length held + 32 ≤ 32768) (sym c.self.view_is) c.requires in
    vector-behind c.self.inside.cells c.args.bytes c.self.inside.len _ (omega arith) c.self.told c.self.invariant room c.fits-bytes.0
    ∙ ap (λ held. held ++ c.args.bytes) c.self.view_is
