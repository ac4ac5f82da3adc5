use Rattle.std.proofs.Common.{rules, ◌≡◌, ◌<◌, ◌^◌, true}
use Rattle.std.specs.List.{list_all}
use Rattle.vx_footer.specs.Footers.{segment_table}
use Rattle.vx_footer.specs.Opening.{ends_within}
use Rattle.vx_file.proofs.Opens.{fit-size}
use Rattle.vx_file.proofs.opened.open_supplied.Goals as goal

pub returns-clause-fit : goal.returns-clause-fit
returns-clause-fit c =
    let all : list_all (ends_within c.greatest_end.result) (segment_table c.args.footer.content) ≡ true = search rules in
    let bound : c.greatest_end.result < 2 ^ 64 = search rules in
    fit-size c.greatest_end.result (segment_table c.args.footer.content) bound all
