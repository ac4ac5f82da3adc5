-- What each status says, failure by failure.
use Rattle.std.proofs.Common.{◌≡◌, ℕ, Option, Some, None, Result, Ok, Err, refl, sym, ap, ◌∙◌, subst, arith, ◌⊎◌, inl, inr}
use Rattle.vx_base.specs.Counts.{Rises}
use Rattle.vx_base.specs.Streams.{SinkState}
use Rattle.vx_commands.specs.declared.command.Command.{Command}
use Rattle.vx_commands.specs.declared.failure.Failure.{Failure}
use Rattle.vx_commands.specs.declared.failure.Failure.TheVariants as failures
use Rattle.vx_commands.specs.Failures.{HasCause, status_of, message_of}
use Rattle.vx_commands.specs.Outputs.{refusal_status, wanted_status}
use Rattle.vx_commands.specs.Outside.{Outside, Steady}
use Rattle.vx_commands.specs.Performs.{Performs, IsUnparsed, Reports, Prints}
use Rattle.vx_main.specs.Runs.{Concludes, Runs}
use Rattle.vx_main.specs.Statuses.{AllWell, EndsUnparsed, Means, Statuses}

-- a count that stands still did not rise
stood : (before now : ℕ) → Steady before now → Rises 1 before now → ⊥
stood before now still rose = omega (arith, still.same, still.below, rose.risen)

-- a failure's status means the failure, and is the one that is deserved, or 70
record Row (c : Command) (before now : Outside) (err err_now : SinkState) (code : ℕ) : Type 0 where
  means : Means code c before now err err_now
  complete : AllWell c before now → (code ≡ wanted_status c before) ⊎ (code ≡ 70)
  no_usage : code ≡ 2 → ⊥

row : (c : Command) (before now : Outside) (err err_now : SinkState) (failure : Failure) → HasCause c before now failure → Reports (message_of failure) err err_now → Row c before now err err_now (status_of failure)
row c before now err err_now failures.Usage h r = absurd h
row c before now err err_now (failures.Line line) h r = record { means = (line, record { cause = h; reported = r }); complete = λ well. inl (sym (h.deserved well.told)); no_usage = λ e. cc }
row c before now err err_now (failures.Refused refusal) h r = record { means = inl (refusal, record { cause = h; reported = r }); complete = λ well. inl (sym (h.deserved well.told)); no_usage = λ e. cc }
row c before now err err_now failures.MissingSegment h r = record { means = inr (inl (record { cause = h; reported = r })); complete = λ well. inl (sym (h.deserved well.told)); no_usage = λ e. cc }
row c before now err err_now (failures.Unbound error) h r = record { means = inr (inr (inl (error, record { cause = h; reported = r }))); complete = λ well. inl (sym (h.deserved well.told)); no_usage = λ e. cc }
row c before now err err_now (failures.Undecoded error) h r = record { means = inr (inr (inr (inl (error, record { cause = h; reported = r })))); complete = λ well. inl (sym (h.deserved well.told)); no_usage = λ e. cc }
row c before now err err_now (failures.Unwritten error) (inl h) r = record { means = inr (inr (inr (inr (error, record { cause = inl h; reported = r })))); complete = λ well. inl (sym (h.deserved well.told)); no_usage = λ e. cc }
row c before now err err_now (failures.Unwritten error) (inr h) r = record { means = inr (inr (inr (inr (error, record { cause = inr h; reported = r })))); complete = λ well. inl (sym (h.deserved well.told)); no_usage = λ e. cc }
row c before now err err_now (failures.Read fault) h r = record { means = (fault, record { cause = h; reported = r }); complete = λ well. absurd (stood before.files.read_faults now.files.read_faults (well.files h.name h.asks.named).reads h.rose); no_usage = λ e. cc }
row c before now err err_now failures.Input h r = record { means = record { cause = h; reported = r }; complete = λ well. absurd (stood before.source.faults now.source.faults (well.input h.reads) h.wants); no_usage = λ e. cc }
row c before now err err_now failures.Output h r = record { means = record { cause = h; reported = r }; complete = λ well. absurd (stood before.out.faults now.out.faults well.output h.rose); no_usage = λ e. cc }
row c before now err err_now (failures.Open name) h r = record { means = (name, record { cause = h; reported = r }); complete = λ well. absurd (stood before.files.faults now.files.faults (well.files name h.asks.named).opens h.rose); no_usage = λ e. cc }
row c before now err err_now failures.InputTooLong h r = record { means = record { cause = h; reported = r }; complete = λ well. inl (sym (h.deserved well.told)); no_usage = λ e. cc }
row c before now err err_now failures.OutOfMemory h r = record { means = record { cause = h; reported = r }; complete = λ well. inr refl; no_usage = λ e. cc }

printed : (c : Command) (before now : Outside) (err err_now : SinkState) → Prints c before now → err_now ≡ err → Row c before now err err_now 0
printed c before now err err_now h quiet = record { means = (h, quiet); complete = λ well. inl (sym (h.given.deserved well.told ∙ ap refusal_status h.whole)); no_usage = λ e. cc }

performed : (c : Command) (before now : Outside) (err err_now : SinkState) (code : ℕ) (result : Result (Unit {0}) Failure) → Performs (Some c) before now result → Concludes result err err_now code → Row c before now err err_now code
performed c before now err err_now code (Ok u) h k = subst (λ n. Row c before now err err_now n) (sym k.0) (printed c before now err err_now h k.1)
performed c before now err err_now code (Err failure) h k = subst (λ n. Row c before now err err_now n) (sym k.status) (row c before now err err_now failure h k.reported)

same-command : (c d : Command) → Some c ≡ Some d → c ≡ d
same-command c d e = cc

-- words that are no command
unparsed-ends : (err err_now : SinkState) (code : ℕ) (result : Result (Unit {0}) Failure) → IsUnparsed result → Concludes result err err_now code → EndsUnparsed err err_now code
unparsed-ends err err_now code result (inl is) h = inl (subst (λ r. Concludes r err err_now code) is h)
unparsed-ends err err_now code result (inr is) h = inr (subst (λ r. Concludes r err err_now code) is h)

pub statuses-of : (command : Option Command) (before now : Outside) (err err_now : SinkState) (code : ℕ) → Runs command before now err err_now code → Statuses command before now err err_now code
statuses-of None before now err err_now code h = record {
  unparsed = λ _. (unparsed-ends err err_now code h.result h.performs.0 h.concludes, h.performs.1);
  usage_only = λ _. refl;
  means = λ c e. absurd cc;
  complete = λ c e. absurd cc;
}
statuses-of (Some c) before now err err_now code h =
    let r = performed c before now err err_now code h.result h.performs h.concludes in
    record {
      unparsed = λ e. absurd cc;
      usage_only = λ e. absurd (r.no_usage e);
      means = λ d e. subst (λ x. Means code x before now err err_now) (same-command c d e) r.means;
      complete = λ d e. subst (λ x. AllWell x before now → (code ≡ wanted_status x before) ⊎ (code ≡ 70)) (same-command c d e) r.complete;
    }
