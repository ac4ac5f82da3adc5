use Rattle.std.proofs.Common.{◌≡◌, ◌∙◌, [], rules, Err}
use Rattle.vx_file.specs.declared.served.ServeError.TheVariants.{OutOfMemory}
use Rattle.vx_file.proofs.Loadings.{loads-are, load-fails, load-rose, load-stops, load-stops-behind}
use Rattle.vx_file.proofs.metadata.load.Goals as goal

pub returns-in_err-fetched-clause-cause : goal.returns-in_err-fetched-clause-cause
returns-in_err-fetched-clause-cause g c = λ w file told st bytes is.
    let reader = g.R.Reader.state in
    let cache = g.C.SegmentCache.state in
    let answer : c.from_residual-in_err-fetched.result ≡ Err OutOfMemory = search rules in
    rw answer (load-stops w c.args.footer.now.content c.deref.result.now (c.deref.ensures.value ∙ c.in_ok-ids.ensures.ids) (cache c.args.cache.now) (cache c.segments.new.cache) c.segments.new.self (reader c.args.reader.now) (reader c.segments.new.reader)
    (c.in_err-fetched.ensures.stopped w [] st))

pub returns-in_err-fetched-clause-steady : goal.returns-in_err-fetched-clause-steady
returns-in_err-fetched-clause-steady g c = λ w file never told st inside. c.in_err-fetched.ensures.steady w [] file never told st inside

pub returns-in-Some-clause-cause : goal.returns-in-Some-clause-cause
returns-in-Some-clause-cause g c = λ w file told st bytes is.
    let reader = g.R.Reader.state in
    let cache = g.C.SegmentCache.state in
    let e = c.in_ok-fetched.ensures in
    rw c.refusal.ensures (load-fails w c.args.footer.now.content is c.deref.result.now (c.deref.ensures.value ∙ c.in_ok-ids.ensures.ids) (cache c.args.cache.now) (cache c.segments.new.cache) c.in_ok-fetched.fetched c.segments.new.self file
    (reader c.args.reader.now) (reader c.segments.new.reader) c.in-Some.cause (e.fetches w [] st) (search rules) e.log e.bad)

pub returns-in-Some-clause-fault : goal.returns-in-Some-clause-fault
returns-in-Some-clause-fault g c = λ w st.
    let reader = g.R.Reader.state in
    let cache = g.C.SegmentCache.state in
    let e = c.in_ok-fetched.ensures in
    rw c.refusal.ensures (load-rose w.table c.deref.result.now (cache c.args.cache.now) (cache c.segments.new.cache) c.in_ok-fetched.fetched (reader c.args.reader.now) (reader c.segments.new.reader) c.in-Some.cause (e.answers w [] st) (search rules) e.bad (e.failures w [] st))

pub returns-in-Some-clause-steady : goal.returns-in-Some-clause-steady
returns-in-Some-clause-steady g c = λ w file never told st inside. c.in_ok-fetched.ensures.steady w [] file never told st inside

pub returns-in_err-values-clause-cause : goal.returns-in_err-values-clause-cause
returns-in_err-values-clause-cause g c = λ w file told st bytes is.
    let reader = g.R.Reader.state in
    let cache = g.C.SegmentCache.state in
    let e = c.in_ok-fetched.ensures in
    let answer : c.from_residual-in_err-values.result ≡ Err OutOfMemory = search rules in
    rw answer (load-stops-behind w c.args.footer.now.content is c.deref.result.now (c.deref.ensures.value ∙ c.in_ok-ids.ensures.ids) (cache c.args.cache.now) (cache c.segments.new.cache) c.in_ok-fetched.fetched c.segments.new.self
    (reader c.args.reader.now) (reader c.segments.new.reader) (e.fetches w [] st) e.log e.bad)

pub returns-in_err-values-clause-steady : goal.returns-in_err-values-clause-steady
returns-in_err-values-clause-steady g c = λ w file never told st inside. c.in_ok-fetched.ensures.steady w [] file never told st inside

pub returns-clause-cause : goal.returns-clause-cause
returns-clause-cause g c = λ w file told st bytes is.
    let cache = g.C.SegmentCache.state in
    let e = c.in_ok-fetched.ensures in (
      loads-are w c.args.footer.now.content is c.deref.result.now (c.deref.ensures.value ∙ c.in_ok-ids.ensures.ids) (cache c.args.cache.now) (cache c.segments.new.cache) c.in_ok-fetched.fetched c.segments.new.self file c.in_ok-values.values
          (e.fetches w [] st) (e.answers w [] st) (search rules) (λ t. e.slices w [] file told st bytes t) (search rules),
      record { log = e.log; rises = e.bad },
    )

pub returns-clause-slices : goal.returns-clause-slices
returns-clause-slices g c = λ w file told st bytes t. (c.in_ok-fetched.ensures.bytes w [] file told st bytes t).1

pub returns-clause-steady : goal.returns-clause-steady
returns-clause-steady g c = λ w file never told st inside. c.in_ok-fetched.ensures.steady w [] file never told st inside
