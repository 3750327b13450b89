use Rattle.std.proofs.Common.{◌≡◌, ◌-◌, ◌≤◌, arith}
use Rattle.std.proofs.lemmas.Bool.Decides.{nat_tests}
use Rattle.book.specs.Records.{residual_of}
use Rattle.book.specs.Tables.{back}
use Rattle.book.specs.Values.{sealed_table}
use Rattle.book.proofs.Settled.{after_shifted, raise_small}
use Rattle.book.proofs.answering.SealedBookNetwork.shift.Goals as goal

pub raise_residual-requires : goal.raise_residual-requires
raise_residual-requires c =
    let less : c.args.amount ≤ residual_of (back (sealed_table c.args.self.now) c.args.arc) = grind (arith, nat_tests) in
    omega (arith, raise_small c.args.self.now c.args.arc c.args.amount c.set_residual.new.self c.in_ok-reverse.ensures less)

pub returns-clause-after : goal.returns-clause-after
returns-clause-after c =
    let has = residual_of (back (sealed_table c.args.self.now) c.args.arc) in
    let left : (c.args.amount ≤ has) × (c.in_ok-left.left ≡ has - c.args.amount) = grind (arith, nat_tests) in
    (after_shifted c.args.self.now c.args.arc c.args.amount c.in_ok-reverse.ensures left.0 left.1 c.set_residual.ensures c.raise_residual.ensures).value

pub invariant_of-self : goal.invariant_of-self
invariant_of-self c =
    let has = residual_of (back (sealed_table c.args.self.now) c.args.arc) in
    let left : (c.args.amount ≤ has) × (c.in_ok-left.left ≡ has - c.args.amount) = grind (arith, nat_tests) in
    let new = (after_shifted c.args.self.now c.args.arc c.args.amount c.in_ok-reverse.ensures left.0 left.1 c.set_residual.ensures c.raise_residual.ensures).settled in
    record { bound = c.args.self.now.bound; pairs = new.pairs; indexed = new.indexed; inside = new.inside }
