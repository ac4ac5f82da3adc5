use Rattle.std.proofs.Common.{◌≡◌, None, Some, true, false, cond, sym, ◌∙◌, ap, arith}
use Rattle.std.specs.Map.{values_of}
use Rattle.vx_sched.specs.Merging.{is_listed}
use Rattle.vx_sched.specs.Picks.{free_at, entries_of, reads_of}
use Rattle.vx_sched.specs.Reads.{waiting_at}
use Rattle.vx_sched.proofs.EntryLemmas.{found-listed}
use Rattle.vx_sched.proofs.PickLemmas.{added, same-picked, same-more}
use Rattle.vx_sched.proofs.gather.Picks.look.Goals as goal

pub returns-then-branch-clause-looked : goal.returns-then-branch-clause-looked
returns-then-branch-clause-looked c = λ r _ _ _ _ unlisted.
    let free : free_at c.args.table.now c.args.before.now c.args.read.id ≡ Some c.args.read =
    ap (λ b. cond b None (waiting_at c.args.table.now c.args.read.id)) (sym c.contains.ensures ∙ c.if-contains.false) ∙ c.requires.waits in
    let found = found-listed (free_at c.args.table.now c.args.before.now) c.args.read (entries_of c.args.self.now) free c.requires.picked.placed c.requires.picked.free in
    let listed : is_listed (reads_of c.args.self.now) c.args.read.id ≡ true = sym found ∙ sym c.in_ok-holds.ensures.holds ∙ c.if-branch.true in
    let still = ap (λ es. is_listed (values_of es) c.args.read.id) c.in_ok-holds.ensures.same.entries in
    cc (sym listed ∙ sym still ∙ unlisted)

pub returns : goal.returns
returns c =
    let free : free_at c.args.table.now c.args.before.now c.args.read.id ≡ Some c.args.read =
    ap (λ b. cond b None (waiting_at c.args.table.now c.args.read.id)) (sym c.contains.ensures ∙ c.if-contains.false) ∙ c.requires.waits in
    let found = found-listed (free_at c.args.table.now c.args.before.now) c.args.read (entries_of c.args.self.now) free c.requires.picked.placed c.requires.picked.free in
    let same = c.in_ok-holds.ensures.same in
    let still = ap (λ es. is_listed (values_of es) c.args.read.id) same.entries in
    let unlisted : is_listed (reads_of c.holds.new.self) c.args.read.id ≡ false = still ∙ sym found ∙ sym c.in_ok-holds.ensures.holds ∙ c.if-branch.false in
    let picked = same-picked c.args.rules.now c.args.table.now c.args.before.now c.args.self.now c.holds.new.self same c.requires.picked in
    let from = c.requires.left in
    let upto = c.requires.right in
    let low = same.low in
    let high = same.high in
    let add = c.in_ok-add.ensures in
    let new = added c.args.rules.now c.args.table.now c.args.before.now c.holds.new.self c.add.new.self c.args.read picked free unlisted
    (omega (arith, from, low, c.if-end-bounds.false)) (omega (arith, upto, high, c.if-read-bounds.false)) (c.is_too_long.ensures.short c.if-is_too_long.false)
    add.reads add.last add.low add.high in
    record {
      picked = new.picked;
      more = same-more c.args.self.now c.holds.new.self c.add.new.self same new.more;
      looked = λ r _ _ _ _ k. cc (sym new.listed ∙ k);
    }
