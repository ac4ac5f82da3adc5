use Rattle.vx_sched.proofs.NearLemmas.{newest-more, newest-all, same-read}
use Rattle.std.proofs.Common.{◌≤◌, subst, arith}
use Rattle.vx_sched.specs.declared.request.ReadRequest.{ReadRequest}
use Rattle.vx_sched.proofs.places.newest_of.Goals as goal

pub loop-read-preserved : goal.loop-read-preserved
loop-read-preserved c = record {
  least = omega (arith, c.loop-read.invariant.least, c.max-greatest.ensures);
  front = newest-more c.args.reads.now c.loop-read.read-index c.loop-read.greatest c.max-greatest.result c.loop-read-test.true c.loop-read.invariant.front
      (omega (arith, c.max-greatest.ensures))
      (subst (λ (x : ReadRequest). x.id ≤ c.max-greatest.result) (same-read c.args.reads.now c.loop-read.read-index c.read-item.result c.loop-read-test.true c.read-item.is)
      (omega (arith, c.max-greatest.ensures)));
}

pub returns-clause-all : goal.returns-clause-all
returns-clause-all c = newest-all c.args.reads.now c.loop-read.read-index c.loop-read.greatest c.loop-read-test.false c.loop-read.invariant.front
