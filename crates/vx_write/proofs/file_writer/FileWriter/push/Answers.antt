use Rattle.std.proofs.Common.{◌≡◌, Ok, Err}
use Rattle.vx_rows.specs.Rows.{column_view}
use Rattle.vx_write.proofs.StandingLemmas.{stands_next, refused_is, answers_are, taken_sound, fine_flag, broken_flag}
use Rattle.vx_write.proofs.file_writer.FileWriter.push.Goals as goal

pub returns-in-Ok-clause-sound : goal.returns-in-Ok-clause-sound
returns-in-Ok-clause-sound g c =
    let state = g.S.Sink.state in
    taken_sound c.args.self.now c.take.new.self (column_view c.args.chunk.now) (state c.args.out.now).gained (state c.take.new.out).gained c.requires c.in-Ok.ensures.ok

pub returns-in-Ok-clause-pushed : goal.returns-in-Ok-clause-pushed
returns-in-Ok-clause-pushed g c o d past start s =
    let before = (g.S.Sink.state c.args.out.now).gained in
    let now = (g.S.Sink.state c.take.new.out).gained in
    let column = column_view c.args.chunk.now in
    record {
      ok = stands_next o d past start before now c.args.self.now c.take.new.self column s c.in-Ok.ensures.ok;
      err = tt;
      answers = answers_are o d past start before c.args.self.now column (Ok tt) s c.in-Ok.ensures.answers;
    }

pub returns-in-Err-clause-pushed : goal.returns-in-Err-clause-pushed
returns-in-Err-clause-pushed g c o d past start s =
    let before = (g.S.Sink.state c.args.out.now).gained in
    let now = (g.S.Sink.state c.take.new.out).gained in
    let column = column_view c.args.chunk.now in
    record {
      ok = tt;
      err = refused_is o d past start before now c.args.self.now c.take.new.self _ column s c.in-Err.ensures.err (fine_flag c.taken.result c.take.new.self.output.taken c.taken.ensures)
          (broken_flag c.taken.result c.take.new.self.output.taken c.taken.ensures);
      answers = answers_are o d past start before c.args.self.now column (Err c.in-Err.error) s c.in-Err.ensures.answers;
    }
