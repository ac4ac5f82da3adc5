-- A writer that chunks are pushed to.
use Rattle.std.proofs.Common.{◌≡◌, List, [], ◌∷◌, Option, ℕ, Result, Ok, Err, true, sym, subst}
use Rattle.vx_base.specs.Streams.{SinkState}
use Rattle.vx_data.specs.Dtype.{Dtype}
use Rattle.vx_footer.specs.Footers.{FooterContent}
use Rattle.vx_footer.specs.ReadAgain.{content_read}
use Rattle.vx_footer.specs.declared.write_error.WriteError.{WriteError}
use Rattle.vx_rows.specs.Rows.{Rows}
use Rattle.vx_write.specs.declared.file_writer.FileWriter.{FileWriter}
use Rattle.vx_write.specs.declared.summary.WriteSummary.{WriteSummary}
use Rattle.vx_write.specs.OpensAgain.{OpensAgain}
use Rattle.vx_write.specs.Options.{Options}
use Rattle.vx_write.specs.Standing.{IsSound, Pushed, Finished}
use Rattle.vx_write.specs.Writers.{HasPushed, Pushes, Closes}
use Rattle.vx_write.proofs.ReadBackPushed.{opens_again}
use Rattle.vx_write.proofs.RowsLemmas.{accepted-more}

pub pushes_by : (o : Options) (d : Dtype) (past : List Rows) (c : Rows) (start : Option (List ℕ)) (w v : FileWriter) (g h : Option (List ℕ)) (result : Result (Unit {0}) WriteError)
    → HasPushed o d past start w g → Pushed o d past c start v h result → Pushes o d past c start v h result
pushes_by o d past c start w v g h (Ok x) p q = record {
  ok = record { stands = q.ok; accepted = accepted-more o d past c x p.accepted q.answers; told = p.told; texts = p.texts };
  err = tt;
  answers = q.answers;
}
pushes_by o d past c start w v g h (Err e) p q = record {
  ok = tt;
  err = record {
    untouched = λ none. record { stands = q.err.untouched none; accepted = p.accepted; told = p.told; texts = p.texts };
    begun = q.err.begun;
  };
  answers = q.answers;
}

pub closes_by : (o : Options) (d : Dtype) (past : List Rows) (start : Option (List ℕ)) (w : FileWriter) (g : Option (List ℕ)) (now : SinkState) (result : Result WriteSummary WriteError)
    → HasPushed o d past start w g → Finished o d past start now result → Closes o d past start now result
closes_by o d past start w g now (Ok s) p f = record {
  ended = f;
  opens = subst (λ (x : FooterContent). OpensAgain o d past (content_read x)) (sym f.footer) (opens_again o d past f.parts p.told p.texts p.accepted f.checks);
}
closes_by o d past start w g now (Err e) p f = f

-- a writer that is broken off
pub broken_sound : (w : FileWriter) → IsSound w → IsSound (record w { failed = true })
broken_sound w s = record {
  fit = s.fit;
  types = s.types;
  stats = record { seen = s.stats.seen; is = s.stats.is; typed = s.stats.typed; even = s.stats.even };
  leaves = s.leaves;
  alive = λ fine. cc;
  sums = λ fine. cc;
}
