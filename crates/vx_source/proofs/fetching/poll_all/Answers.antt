use Rattle.std.proofs.Common.{◌∙◌, [], ◌∷◌, ◌++◌, arith, subst}
use Rattle.std.proofs.lemmas.List.{append-nil}
use Rattle.vx_source.specs.Fetching.{AreTruePolls}
use Rattle.vx_source.proofs.DriveLemmas.{on-err}
use Rattle.vx_source.proofs.PutLemmas.{nothing-left}
use Rattle.vx_source.proofs.FetchLemmas.{polls-one, polling-same, true-poll, true-then}
use Rattle.vx_source.proofs.fetching.poll_all.Goals as goal

pub loop-fetch-preserved : goal.loop-fetch-preserved
loop-fetch-preserved c =
    let i = c.loop-fetch.invariant in
    let steps = c.in-Some.ensures.steps in
    let e = c.in_ok-next.ensures in
    record {
      polled = λ w past st. rw c.in_ok-push.ensures.items
          (polls-one w past c.args.fetches.items c.next.new.self.rest.items c.loop-fetch.polled.items c.in-Some.fetch c.in_ok-next.next c.loop-fetch.session c.poll_open.new.session
          (rw steps.0 at (i.polled w past st)) (λ h s. e.polled w h s));
      slices = λ w past file st b more t. rw c.in_ok-push.ensures.items
          (let h = i.polled w past st in
          true-then file w past c.args.fetches.items c.next.new.self.rest.items c.loop-fetch.polled.items more c.in-Some.fetch c.in_ok-next.next (λ l x. i.slices w past file st b l (rw steps.0 x))
          (true-poll file w past h.now c.in-Some.fetch.number c.in_ok-next.next.reply (polling-same w past h.done c.loop-fetch.polled.items h.now h.polls) (e.bytes w h.now file h.stands (i.bytes w past file st b)).0) t);
      bytes = λ w past file st b. let h = i.polled w past st in (e.bytes w h.now file h.stands (i.bytes w past file st b)).1;
      settings = e.settings ∙ i.settings;
      made = e.made ∙ i.made;
    }

pub returns-clause-slices : goal.returns-clause-slices
returns-clause-slices c = λ w past file st b.
    let steps = c.in-None.ensures.steps in
    subst (λ l. AreTruePolls file w past c.args.fetches.items l) (append-nil c.loop-fetch.polled.items)
    (c.loop-fetch.invariant.slices w past file st b [] (rw (nothing-left c.loop-fetch.fetch-iterator.rest.items (omega (arith, steps.0))) tt))

pub returns-in_err-next-clause-bytes : goal.returns-in_err-next-clause-bytes
returns-in_err-next-clause-bytes c = λ w past file st b. rw c.in_err-next.ensures.err (c.loop-fetch.invariant.bytes w past file st b)

pub returns-in_err-push-clause-bytes : goal.returns-in_err-push-clause-bytes
returns-in_err-push-clause-bytes c = λ w past file st b.
    let i = c.loop-fetch.invariant in
    let h = i.polled w past st in
    (c.in_ok-next.ensures.bytes w h.now file h.stands (i.bytes w past file st b)).1

pub returns-in_err-push-clause-stopped : goal.returns-in_err-push-clause-stopped
returns-in_err-push-clause-stopped c = on-err c.from_residual-in_err-push.result _ (λ w past st.
    let steps = c.in-Some.ensures.steps in (
      c.next.new.self.rest.items,
      c.loop-fetch.polled.items ++ c.in_ok-next.next ∷ [],
      polls-one w past c.args.fetches.items c.next.new.self.rest.items c.loop-fetch.polled.items c.in-Some.fetch c.in_ok-next.next c.loop-fetch.session c.poll_open.new.session
          (rw steps.0 at (c.loop-fetch.invariant.polled w past st)) (λ h s. c.in_ok-next.ensures.polled w h s),
    ))
