use Rattle.std.proofs.Common.{◌≡◌, rules, refl, inl}
use Rattle.vx_file.specs.declared.multi_error.MultiError.TheVariants as errors
use Rattle.vx_file.proofs.MultiLemmas.{serve_stops}
use Rattle.vx_file.proofs.named_files.open_named.Goals as goal

pub returns-in-Err-Serve-clause-stops : goal.returns-in-Err-Serve-clause-stops
returns-in-Err-Serve-clause-stops g c = λ e is.
    let same : errors.Serve c.args.index c.in-Err-Serve.error ≡ e = cc in
    serve_stops c.in-Err-Serve.error e same (record {
      hints = c.options-chosen.result.options;
      cache = g.C.SegmentCache.state c.options-chosen.result.cache;
      chosen = (c.in-Ok.plain, c.options-chosen.result, c.options-chosen.ensures, (c.in-Ok.ensures.0, c.in-Ok.ensures.1), refl, refl);
      fails = c.in-Err-Serve.ensures.fails c.in-Err-Serve.error (search rules);
    })

pub returns-in-Err-Serve-clause-stopped : goal.returns-in-Err-Serve-clause-stopped
returns-in-Err-Serve-clause-stopped g c = inl (c.in-Err-Serve.ensures.fails c.in-Err-Serve.error (search rules)).asked
