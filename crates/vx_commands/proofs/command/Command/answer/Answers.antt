use Rattle.std.proofs.Common.{Ok, refl, subst, sym}
use Rattle.vx_commands.specs.declared.answer.Answer.TheVariants as answers
use Rattle.vx_commands.specs.declared.command.Command.TheVariants as commands
use Rattle.vx_commands.specs.Outside.{Keeps}
use Rattle.vx_commands.specs.Performs.{Gathers}
use Rattle.vx_commands.proofs.command.Command.answer.Goals as goal

pub returns-in-Demo-clause-keeps : goal.returns-in-Demo-clause-keeps
returns-in-Demo-clause-keeps g c =
    let files = g.F.Opener.state c.args.files.now in
    subst (λ x. Keeps x (g.I.Source.state c.args.input.now) (g.I.Source.state c.answer-in-Demo.new.input) files files) (sym c.in-Demo.is) (c.answer-in-Demo.ensures.keeps files)

pub returns-in-Sizes-clause-keeps : goal.returns-in-Sizes-clause-keeps
returns-in-Sizes-clause-keeps g c =
    let source = g.I.Source.state c.args.input.now in
    subst (λ x. Keeps x source source (g.F.Opener.state c.args.files.now) (g.F.Opener.state c.answer-in-Sizes.new.files)) (sym c.in-Sizes.is) (c.answer-in-Sizes.ensures.keeps source)

pub returns-in-Prune-clause-keeps : goal.returns-in-Prune-clause-keeps
returns-in-Prune-clause-keeps g c =
    let source = g.I.Source.state c.args.input.now in
    subst (λ x. Keeps x source source (g.F.Opener.state c.args.files.now) (g.F.Opener.state c.answer-in-Prune.new.files)) (sym c.in-Prune.is) (c.answer-in-Prune.ensures.keeps source)

pub returns-in-Scan-clause-keeps : goal.returns-in-Scan-clause-keeps
returns-in-Scan-clause-keeps g c =
    let source = g.I.Source.state c.args.input.now in
    subst (λ x. Keeps x source source (g.F.Opener.state c.args.files.now) (g.F.Opener.state c.answer-in-Scan.new.files)) (sym c.in-Scan.is) (c.answer-in-Scan.ensures.keeps source)

pub returns-in-Write-clause-keeps : goal.returns-in-Write-clause-keeps
returns-in-Write-clause-keeps g c =
    let files = g.F.Opener.state c.args.files.now in
    subst (λ x. Keeps x (g.I.Source.state c.args.input.now) (g.I.Source.state c.answer-in-Write.new.input) files files) (sym c.in-Write.is) (c.answer-in-Write.ensures.keeps files)

pub returns-in-Gen-clause-keeps : goal.returns-in-Gen-clause-keeps
returns-in-Gen-clause-keeps g c =
    let source = g.I.Source.state c.args.input.now in
    let files = g.F.Opener.state c.args.files.now in
    subst (λ x. Keeps x source source files files) (sym c.in-Gen.is) (c.answer-in-Gen.ensures.keeps source files)

pub returns-in-Serve-clause-gathers : goal.returns-in-Serve-clause-gathers
returns-in-Serve-clause-gathers g c =
    subst (λ x. Gathers x (g.I.Source.state c.args.input.now) (g.I.Source.state c.answer.new.input) (g.F.Opener.state c.args.files.now) (g.F.Opener.state c.answer.new.files) c.answer.result) (sym c.in-Serve.is) c.answer.ensures.gathers

pub returns-in-Demo-clause-gathers : goal.returns-in-Demo-clause-gathers
returns-in-Demo-clause-gathers g c =
    subst (λ x. Gathers x (g.I.Source.state c.args.input.now) (g.I.Source.state c.answer-in-Demo.new.input) (g.F.Opener.state c.args.files.now) (g.F.Opener.state c.args.files.now) c.answer-in-Demo.result) (sym c.in-Demo.is) (c.answer-in-Demo.ensures.gathers (g.F.Opener.state c.args.files.now))

pub returns-in-Sizes-clause-gathers : goal.returns-in-Sizes-clause-gathers
returns-in-Sizes-clause-gathers g c =
    subst (λ x. Gathers x (g.I.Source.state c.args.input.now) (g.I.Source.state c.args.input.now) (g.F.Opener.state c.args.files.now) (g.F.Opener.state c.answer-in-Sizes.new.files) c.answer-in-Sizes.result) (sym c.in-Sizes.is) (c.answer-in-Sizes.ensures.gathers (g.I.Source.state c.args.input.now))

pub returns-in-Prune-clause-gathers : goal.returns-in-Prune-clause-gathers
returns-in-Prune-clause-gathers g c =
    subst (λ x. Gathers x (g.I.Source.state c.args.input.now) (g.I.Source.state c.args.input.now) (g.F.Opener.state c.args.files.now) (g.F.Opener.state c.answer-in-Prune.new.files) c.answer-in-Prune.result) (sym c.in-Prune.is) (c.answer-in-Prune.ensures.gathers (g.I.Source.state c.args.input.now))

pub returns-in-Scan-clause-gathers : goal.returns-in-Scan-clause-gathers
returns-in-Scan-clause-gathers g c =
    subst (λ x. Gathers x (g.I.Source.state c.args.input.now) (g.I.Source.state c.args.input.now) (g.F.Opener.state c.args.files.now) (g.F.Opener.state c.answer-in-Scan.new.files) c.answer-in-Scan.result) (sym c.in-Scan.is) (c.answer-in-Scan.ensures.gathers (g.I.Source.state c.args.input.now))

pub returns-in-Write-clause-gathers : goal.returns-in-Write-clause-gathers
returns-in-Write-clause-gathers g c =
    subst (λ x. Gathers x (g.I.Source.state c.args.input.now) (g.I.Source.state c.answer-in-Write.new.input) (g.F.Opener.state c.args.files.now) (g.F.Opener.state c.args.files.now) c.answer-in-Write.result) (sym c.in-Write.is) (c.answer-in-Write.ensures.gathers (g.F.Opener.state c.args.files.now))

pub returns-in-Gen-clause-gathers : goal.returns-in-Gen-clause-gathers
returns-in-Gen-clause-gathers g c =
    subst (λ x. Gathers x (g.I.Source.state c.args.input.now) (g.I.Source.state c.args.input.now) (g.F.Opener.state c.args.files.now) (g.F.Opener.state c.args.files.now) c.answer-in-Gen.result) (sym c.in-Gen.is) (c.answer-in-Gen.ensures.gathers (g.I.Source.state c.args.input.now) (g.F.Opener.state c.args.files.now))

pub returns-in-Serve-clause-keeps : goal.returns-in-Serve-clause-keeps
returns-in-Serve-clause-keeps g c =
    subst (λ x. Keeps x (g.I.Source.state c.args.input.now) (g.I.Source.state c.answer.new.input) (g.F.Opener.state c.args.files.now) (g.F.Opener.state c.answer.new.files)) (sym c.in-Serve.is) c.answer.ensures.keeps

pub returns-in-Version-clause-gathers : goal.returns-in-Version-clause-gathers
returns-in-Version-clause-gathers g c =
    let source = g.I.Source.state c.args.input.now in
    let files = g.F.Opener.state c.args.files.now in
    let told : Gathers commands.Version source source files files (Ok answers.Version) = record {
      each = λ out. record { is = record { is = refl; source = refl; files = refl }; deserved = λ told. refl };
    } in
    subst (λ x. Gathers x source source files files (Ok answers.Version)) (sym c.in-Version.is) told
