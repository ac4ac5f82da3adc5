use Rattle.std.proofs.Common.{arith, ◌∙◌, ℕ, ◌+◌, min, ◌∷◌, [], ◌++◌, Option, List, ap}
use Rattle.std.specs.Option.{option_map}
use Rattle.vx_base.specs.Counts.{last_count}
use Rattle.vx_base.specs.Openers.{Returned}
use Rattle.vx_base.specs.Readers.{ReaderState}
use Rattle.vx_rows.specs.Predicates.{pred_view}
use Rattle.vx_commands.proofs.Openings.{Lent}
use Rattle.vx_commands.proofs.NameScans.{name-scan}
use Rattle.vx_commands.proofs.scanning.scan_name.Goals as goal

pub returns-clause-cause : goal.returns-clause-cause
returns-clause-cause g c =
    let reader = g.F.Reader.Reader.state in
    let opener = g.F.Opener.state in
    let given = c.in-Ok.ensures.cause in
    let back = c.in_ok-take_back.ensures.cause in
    let name = c.args.name.now in
    let before = opener c.args.files.now in
    let now = opener c.take_back.new.self in
    let opened : ReaderState = reader c.in-Ok.reader in
    let served : ReaderState = reader c.scan_reader-reader.result.0 in
    let lent : Lent name (before.settings name) before now opened served = record {
      has = given.opened.settings;
      told = given.opened.told;
      fresh = given.opened.fresh;
      faultless = given.opened.faultless;
      asked = back.asked ∙ given.asked;
      returned = back.returned ∙ ap (λ (all : Option (List Returned)). option_map (λ l. l ++ record { name = name; log = served.log } ∷ []) all) given.returned;
      counted = back.counted ∙ ap (λ (n : ℕ). min (n + served.faults) last_count) given.read_faults;
      never_falls = omega (arith, c.in-Ok.ensures.same.read_never_falls, c.in_ok-take_back.ensures.same.read_never_falls);
    } in
    name-scan c.args.options.now c.requires.no_footer c.requires.no_metadata (option_map pred_view c.args.predicate) name before now opened served lent
    c.scan_reader-reader.result.1 c.told.result c.scan_reader-reader.ensures.scans c.scan_reader-reader.ensures.rose c.told.ensures
