use Rattle.std.proofs.Common.{◌∷◌, ◌++◌, ◌∙◌, ap}
use Rattle.std.specs.Fmt.{decimal}
use Rattle.vx_text.specs.Text.{TextState}
use Rattle.vx_text.proofs.TextLemmas.{adds_later}
use Rattle.vx_text.proofs.text.TextOut.number_after.Goals as goal

pub returns : goal.returns
returns g c =
    let before = g.S.Sink.state c.args.out.now in
    let now = g.S.Sink.state c.make_room.new.out in
    let after : TextState = record { held = c.put_digits_after.new.self; failure = c.self.inside.failure } in
    adds_later (32 ∷ decimal c.args.number) c.args.self.now c.make_room.new.self after before now
    c.make_room.ensures.adds (c.put_digits_after.ensures ∙ ap (λ t. t.held ++ 32 ∷ decimal c.args.number) c.self.view_is) (ap (λ t. t.failure) c.self.view_is)
