use Rattle.std.proofs.Common.{◌≡◌, ◌+◌, ◌-◌, length, ap, arith}
use Rattle.book.specs.Calls.{Open}
use Rattle.book.specs.Plans.{total_earnings}
use Rattle.book.specs.Values.{open_of}
use Rattle.book.proofs.Plans.{within_earnings}
use Rattle.engine.proofs.Ones.{the_refusal, the_plan}
use Rattle.engine.proofs.planning.plan.Goals as goal

pub returns-in-Err : goal.returns-in-Err
returns-in-Err c =
    let s : Open = open_of c.new-book.result in
    let size : length s.table.now ≡ 2048 = omega (arith, ap (λ (o : Open). length o.table.now) c.new-book.ensures, c.deref_mut.ensures.len, c.in_ok-table.ensures.len) in
    rw c.into.ensures (the_refusal c.args.input.now s _ c.in-Err.refusal (omega arith) (ap (λ (o : Open). o.book) c.new-book.ensures) size c.in-Err.ensures.loaded)

pub overflow_sub-result : goal.overflow_sub-result
overflow_sub-result c = omega (arith, c.total_earnings-earnings.ensures, within_earnings _ _ _ c.seal-sealed.ensures.network c.in_ok-cut.ensures.cut.0)

pub returns : goal.returns
returns c =
    let s : Open = open_of c.new-book.result in
    let size : length s.table.now ≡ 2048 = omega (arith, ap (λ (o : Open). length o.table.now) c.new-book.ensures, c.deref_mut.ensures.len, c.in_ok-table.ensures.len) in
    let sealed = c.seal-sealed.ensures in
    let t : Open = open_of c.load.new.book in
    let rest : c.in_ok-cut.cut.cost + (c.total_earnings-earnings.result - c.in_ok-cut.cut.cost) ≡ total_earnings t.book = omega (arith, c.total_earnings-earnings.ensures, within_earnings _ _ _ sealed.network c.in_ok-cut.ensures.cut.0) in
    the_plan c.args.input.now s t _ c.in-Ok.counts c.in_ok-cut.cut.cost _ _ (omega arith) size c.in-Ok.ensures.loaded sealed.network sealed.lawful sealed.best c.in_ok-cut.ensures.cut.0 rest c.in_ok-cut.ensures.cut.1
