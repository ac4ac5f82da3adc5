use Rattle.vx_source.proofs.FetchLemmas.{poll-next, poll-true}
use Rattle.vx_source.proofs.fetching.poll_open.Goals as goal

pub returns-clause-polled : goal.returns-clause-polled
returns-clause-polled c = λ w past st.
    poll-next w past c.args.fetch c.at_poll.result c.in-Some.number c.in_ok-reply.reply c.in-Some.is c.at_poll.ensures c.poll.new.self (c.in_ok-reply.ensures.polls w past st)

pub returns-clause-bytes : goal.returns-clause-bytes
returns-clause-bytes c = λ w past file st h.
    let b = c.in_ok-reply.ensures.bytes w past file st h in
    (poll-true w past c.args.fetch c.at_poll.result c.in-Some.number c.in_ok-reply.reply c.in-Some.is c.at_poll.ensures file b.0, b.1)
