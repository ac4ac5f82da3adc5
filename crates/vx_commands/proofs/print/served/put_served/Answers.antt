use Rattle.std.proofs.Common.{◌∙◌, ap}
use Rattle.std.specs.List.{flat_map}
use Rattle.vx_print.specs.FooterText.{footer_text}
use Rattle.vx_commands.specs.Render.{values_text, read_line, reply_text}
use Rattle.vx_print.proofs.FooterText.{adds-same}
use Rattle.vx_text.proofs.TextLemmas.{adds_then}
use Rattle.vx_commands.proofs.print.served.put_served.Goals as goal

pub returns : goal.returns
returns g c =
    let footer = adds-same (ap (λ s. footer_text s.footer.content) c.served-served.ensures) c.put_footer.ensures in
    let values = adds-same (ap (λ s. values_text s.metadata) c.served-served.ensures) c.put_loaded.ensures in
    let ranges = adds-same (ap (flat_map read_line) (c.as_slice.ensures ∙ ap (λ s. s.opening) c.served-served.ensures)) c.put_ranges.ensures in
    let replies = adds-same (ap (λ s. flat_map reply_text s.replies) c.served-served.ensures) c.put_replies.ensures in
    adds_then (adds_then (adds_then footer values) ranges) replies
