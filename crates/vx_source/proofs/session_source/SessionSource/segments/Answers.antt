use Rattle.std.proofs.Common.{◌∙◌, ◌≤◌, ap, length, sym, subst}
use Rattle.vx_source.specs.Fetching.{AreAnswers, cache_failures}
use Rattle.vx_source.specs.Stands.{EndsWithin}
use Rattle.vx_source.specs.Asks.{bad_spans}
use Rattle.vx_source.proofs.AnswerLemmas.{ready-all}
use Rattle.vx_source.proofs.SourceLemmas.{answers-all, rises-all, same-all, table-all, history-then, file-slices, file-then}
use Rattle.vx_source.proofs.session_source.SessionSource.segments.Goals as goal

pub invariant_of-self : goal.invariant_of-self
invariant_of-self g c =
    let room = c.make_room.new.session in
    let history = c.make_room.ensures.history c.args.self.now.history in
    let e = c.segments.ensures in
    record {
      concurrency = subst (λ n. n ≤ (g.R.Reader.state c.segments.new.reader).concurrency) (sym (ap (λ s. s.concurrency) (e.settings ∙ c.make_room.ensures.settings))) (subst (λ n. c.args.self.now.session.idle.concurrency ≤ n) (sym e.same.concurrency) c.args.self.now.concurrency);
      history = history-then room history c.segments.new.self (λ w past st. e.stands w past st);
    }

pub returns-in_err-fetched-clause-bytes : goal.returns-in_err-fetched-clause-bytes
returns-in_err-fetched-clause-bytes g c = λ file all.
    let reader = g.R.Reader.state in
    let cache = g.C.SegmentCache.state in
    let room = c.make_room.new.session in
    let history = c.make_room.ensures.history c.args.self.now.history in
    let e = c.in_err-fetched.ensures in
    file-then file c.args.self.now.session room (reader c.args.self.now.reader) (cache c.args.self.now.cache) history c.make_room.ensures.table (λ b. c.make_room.ensures.bytes file b)
    c.segments.new.self (reader c.segments.new.reader) (cache c.segments.new.cache) e.same.bytes (λ w past st. e.stands w past st) (λ w past told st b t. e.bytes w past file told st b t) all

pub returns-clause-bytes : goal.returns-clause-bytes
returns-clause-bytes g c = λ file all.
    let reader = g.R.Reader.state in
    let cache = g.C.SegmentCache.state in
    let room = c.make_room.new.session in
    let history = c.make_room.ensures.history c.args.self.now.history in
    let e = c.in_ok-fetched.ensures in
    file-then file c.args.self.now.session room (reader c.args.self.now.reader) (cache c.args.self.now.cache) history c.make_room.ensures.table (λ b. c.make_room.ensures.bytes file b)
    c.segments.new.self (reader c.segments.new.reader) (cache c.segments.new.cache) e.same.bytes (λ w past st. e.stands w past st) (λ w past told st b t. e.bytes w past file told st b t) all

pub returns-in_err-fetched-clause-steady : goal.returns-in_err-fetched-clause-steady
returns-in_err-fetched-clause-steady g c = λ file never told inside.
    let reader = g.R.Reader.state in
    let cache = g.C.SegmentCache.state in
    let room = c.make_room.new.session in
    let history = c.make_room.ensures.history c.args.self.now.history in
    same-all room history (reader c.segments.new.reader).faults (reader c.args.self.now.reader).faults (λ w past st.
    c.in_err-fetched.ensures.steady w past file never told st (subst (EndsWithin (length file)) (sym c.make_room.ensures.table ∙ st.table) inside))

pub returns-clause-steady : goal.returns-clause-steady
returns-clause-steady g c = λ file never told inside.
    let reader = g.R.Reader.state in
    let cache = g.C.SegmentCache.state in
    let room = c.make_room.new.session in
    let history = c.make_room.ensures.history c.args.self.now.history in
    same-all room history (reader c.segments.new.reader).faults (reader c.args.self.now.reader).faults (λ w past st.
    c.in_ok-fetched.ensures.steady w past file never told st (subst (EndsWithin (length file)) (sym c.make_room.ensures.table ∙ st.table) inside))

pub returns-clause-sound : goal.returns-clause-sound
returns-clause-sound g c = λ file never told inside.
    let reader = g.R.Reader.state in
    let cache = g.C.SegmentCache.state in
    let room = c.make_room.new.session in
    let history = c.make_room.ensures.history c.args.self.now.history in
    same-all room history (bad_spans c.in_ok-fetched.fetched.spans) 0 (λ w past st.
    c.in_ok-fetched.ensures.sound w past file never told st (subst (EndsWithin (length file)) (sym c.make_room.ensures.table ∙ st.table) inside))

pub returns-in_err-fetched-clause-table : goal.returns-in_err-fetched-clause-table
returns-in_err-fetched-clause-table g c =
    let room = c.make_room.new.session in
    let history = c.make_room.ensures.history c.args.self.now.history in
    table-all room history c.segments.new.self (λ w past st. c.in_err-fetched.ensures.stands w past st) ∙ c.make_room.ensures.table

pub returns-clause-table : goal.returns-clause-table
returns-clause-table g c =
    let room = c.make_room.new.session in
    let history = c.make_room.ensures.history c.args.self.now.history in
    table-all room history c.segments.new.self (λ w past st. c.in_ok-fetched.ensures.stands w past st) ∙ c.make_room.ensures.table

pub returns-clause-answers : goal.returns-clause-answers
returns-clause-answers g c =
    let room = c.make_room.new.session in
    let history = c.make_room.ensures.history c.args.self.now.history in
    let f = c.in_ok-fetched.fetched in
    subst (λ t. AreAnswers t f.spans c.args.ids.now f.replies) c.make_room.ensures.table (answers-all room history f.spans c.args.ids.now f.replies (λ w past st. c.in_ok-fetched.ensures.answers w past st))

pub returns-clause-ready : goal.returns-clause-ready
returns-clause-ready g c =
    let room = c.make_room.new.session in
    let history = c.make_room.ensures.history c.args.self.now.history in
    let f = c.in_ok-fetched.fetched in
    ready-all c.args.self.now.session.table f.spans c.args.ids.now f.replies (subst (λ t. AreAnswers t f.spans c.args.ids.now f.replies) c.make_room.ensures.table (answers-all room history f.spans c.args.ids.now f.replies (λ w past st. c.in_ok-fetched.ensures.answers w past st)))

pub returns-clause-failures : goal.returns-clause-failures
returns-clause-failures g c =
    let reader = g.R.Reader.state in
    let cache = g.C.SegmentCache.state in
    let room = c.make_room.new.session in
    let history = c.make_room.ensures.history c.args.self.now.history in
    rises-all room history (cache_failures c.in_ok-fetched.fetched.replies) (cache c.args.self.now.cache).faults (cache c.segments.new.cache).faults (λ w past st. c.in_ok-fetched.ensures.failures w past st)

pub returns-clause-slices : goal.returns-clause-slices
returns-clause-slices g c = λ file all.
    let reader = g.R.Reader.state in
    let cache = g.C.SegmentCache.state in
    let room = c.make_room.new.session in
    let history = c.make_room.ensures.history c.args.self.now.history in
    file-slices file c.args.self.now.session room (reader c.args.self.now.reader) (cache c.args.self.now.cache) history c.make_room.ensures.table (λ b. c.make_room.ensures.bytes file b)
    c.args.ids.now c.in_ok-fetched.fetched.replies (λ w past told st b t. c.in_ok-fetched.ensures.slices w past file told st b t) all
