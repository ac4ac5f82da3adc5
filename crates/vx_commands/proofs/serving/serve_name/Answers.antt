use Rattle.std.proofs.Common.{arith, ◌∙◌, ℕ, ◌+◌, min, ◌∷◌, [], ◌++◌, List, Option, ap}
use Rattle.std.specs.Option.{option_map}
use Rattle.vx_base.specs.Asking.{Log}
use Rattle.vx_base.specs.Counts.{last_count}
use Rattle.vx_base.specs.Openers.{Returned}
use Rattle.vx_base.specs.Readers.{ReaderState}
use Rattle.vx_commands.specs.Reading.{settings_by}
use Rattle.vx_commands.proofs.Openings.{Lent, file-cause}
use Rattle.vx_commands.proofs.serving.serve_name.Goals as goal

pub returns-clause-cause : goal.returns-clause-cause
returns-clause-cause g c =
    let reader = g.F.Reader.Reader.state in
    let opener = g.F.Opener.state in
    let cache = g.C.SegmentCache.state in
    let given = c.in-Ok.ensures.cause in
    let back = c.in_ok-take_back.ensures.cause in
    let name = c.args.name.now in
    let w = c.window-windowed.result in
    let v = c.serve_reader-served.new.reader in
    let same = c.window-windowed.ensures.inner in
    let gone = c.into_inner.ensures in
    let opened : ReaderState = record (reader w.inner) { distance = w.distance; max_read_size = w.max_read_size; concurrency = w.concurrency } in
    let served : ReaderState = record (reader v.inner) { distance = v.distance; max_read_size = v.max_read_size; concurrency = v.concurrency } in
    let lent : Lent name (settings_by c.args.reading.now ((opener c.args.files.now).settings name)) (opener c.args.files.now) (opener c.take_back.new.self) opened served = record {
      has = c.window-windowed.ensures.settings ∙ ap (settings_by c.args.reading.now) given.opened.settings;
      told = λ b e. ap (λ r. (reader r).bytes) same ∙ given.opened.told b e;
      fresh = λ all e. ap (λ r. (reader r).log) same ∙ given.opened.fresh all e;
      faultless = ap (λ r. (reader r).faults) same ∙ given.opened.faultless;
      asked = back.asked ∙ given.asked;
      returned = back.returned ∙ ap (λ (x : Option Log). option_map (λ l. l ++ record { name = name; log = x } ∷ []) (opener c.open_named.new.self).returned) (ap (λ r. (reader r).log) gone)
          ∙ ap (λ (all : Option (List Returned)). option_map (λ l. l ++ record { name = name; log = served.log } ∷ []) all) given.returned;
      counted = back.counted ∙ ap (λ (n : ℕ). min ((opener c.open_named.new.self).read_faults + n) last_count) (ap (λ r. (reader r).faults) gone) ∙ ap (λ (n : ℕ). min (n + served.faults) last_count) given.read_faults;
      never_falls = omega (arith, c.in-Ok.ensures.same.read_never_falls, c.in_ok-take_back.ensures.same.read_never_falls);
    } in
    file-cause c.args.options (settings_by c.args.reading.now) (cache c.args.cache.now) (cache c.serve_reader-served.new.cache) name c.args.script.now (opener c.args.files.now) (opener c.take_back.new.self) opened served c.serve_reader-served.result lent
    c.requires.none c.serve_reader-served.ensures.still c.serve_reader-served.ensures.cause c.serve_reader-served.ensures.read
