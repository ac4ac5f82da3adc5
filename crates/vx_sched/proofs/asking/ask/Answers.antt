use Rattle.std.proofs.Common.{inr}
use Rattle.vx_base.specs.Asking.{logged, ranges_of-logged}
use Rattle.vx_sched.proofs.asking.ask.Goals as goal

pub returns-in-Err-clause-cause : goal.returns-in-Err-clause-cause
returns-in-Err-clause-cause g c =
    let asked = c.in_ok-answers.ensures.cause in
    record {
      places = tt;
      bytes = tt;
      log = tt;
      memory = record {
        more = logged c.args.asked.now c.in_ok-answers.answers.items;
        asked = inr (ranges_of-logged c.args.asked.now c.in_ok-answers.answers.items);
        grew = asked.log;
      };
      rises = tt;
      sound = asked.sound;
      complete = tt;
    }
