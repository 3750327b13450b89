use Rattle.std.proofs.Common.{◌≡◌, ◌-◌, ◌<◌, ◌≤◌, arith, set}
use Rattle.std.proofs.lemmas.Bool.Decides.{nat_tests}
use Rattle.network.specs.Answers.{after_take}
use Rattle.book.specs.Records.{amount_of}
use Rattle.book.specs.Tables.{front}
use Rattle.book.specs.Values.{sealed_table, sealed_value}
use Rattle.book.proofs.Settled.{After, after_taken}
use Rattle.book.proofs.answering.SealedBookNetwork.take.Goals as goal

-- what the take leaves
left : (c : goal.After-held-2-1) → After c.args.self.now (after_take (sealed_value c.args.self.now) c.args.terminal c.args.node c.args.amount) (set (sealed_table c.args.self.now) c.args.node c.set_amount.new.self)
left c =
    let has = amount_of (front (sealed_table c.args.self.now) c.args.node) c.args.terminal in
    let there : c.args.node < c.args.self.now.held.entries = grind (arith, nat_tests) in
    let less : (c.args.amount ≤ has) × (c.in_ok-left.left ≡ has - c.args.amount) = grind (arith, nat_tests) in
    after_taken c.args.self.now c.args.terminal c.args.node c.args.amount there less.0 (rw (← less.1) c.set_amount.ensures)

pub returns-clause-after : goal.returns-clause-after
returns-clause-after c = (left c.before).value

pub invariant_of-self : goal.invariant_of-self
invariant_of-self c =
    let new = (left c).settled in
    record { bound = c.args.self.now.bound; pairs = new.pairs; indexed = new.indexed; inside = new.inside }
