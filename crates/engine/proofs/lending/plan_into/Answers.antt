use Rattle.std.proofs.Common.{◌≡◌, ◌+◌, ◌-◌, ◌*◌, length, ap, arith}
use Rattle.book.specs.Calls.{Open}
use Rattle.book.specs.Plans.{total_earnings}
use Rattle.book.specs.Values.{open_of}
use Rattle.book.proofs.Plans.{within_earnings}
use Rattle.filing.proofs.Wholes.{few_counts}
use Rattle.engine.proofs.Lendings.{loads, planned_into}
use Rattle.engine.proofs.lending.plan_into.Goals as goal

pub overflow_mul-counts : goal.overflow_mul-counts
overflow_mul-counts c = let few = few_counts c.new-checked.result c.in-Ok.counts c.in-Ok.ensures.answers in omega (arith, few)

pub overflow_add-counts : goal.overflow_add-counts
overflow_add-counts c = let few = few_counts c.new-checked.result c.in-Ok.counts c.in-Ok.ensures.answers in omega (arith, few)

pub unwrap-counts-requires : goal.unwrap-counts-requires
unwrap-counts-requires c =
    let s : Open = open_of c.new-book.result in
    let size : length s.table.now ≡ c.in-Ok.counts.entries + 2 * c.in-Ok.counts.needs = omega (arith, ap (λ (o : Open). length o.table.now) c.new-book.ensures, c.deref_mut.ensures.len, c.in_ok-table.ensures.len) in
    loads c.new-checked.result s _ c.in-Ok.counts c.load_into.result c.in-Ok.ensures.answers (ap (λ (o : Open). o.book) c.new-book.ensures) size c.load_into.ensures.loaded

pub overflow_sub-result : goal.overflow_sub-result
overflow_sub-result c =
    let cut = rw c.in-Ok-2.is at c.in_ok-least.ensures.cut in
    omega (arith, c.total_earnings-earnings.ensures, within_earnings _ _ _ c.seal-sealed.ensures.network cut.1)

pub returns-in-Ok-2 : goal.returns-in-Ok-2
returns-in-Ok-2 c =
    let s : Open = open_of c.new-book.result in
    let t : Open = open_of c.load_into.new.book in
    let loaded = rw (c.unwrap-counts.ensures, c.new-checked.ensures) at c.load_into.ensures.loaded in
    let cut = rw c.in-Ok-2.is at c.in_ok-least.ensures.cut in
    let sealed = c.seal-sealed.ensures in
    let rest : c.in-Ok-2.least + (c.total_earnings-earnings.result - c.in-Ok-2.least) ≡ total_earnings t.book = omega (arith, c.total_earnings-earnings.ensures, within_earnings _ _ _ sealed.network cut.1) in
    planned_into c.args.sheet.now c.args.marks.now c.cut_into.new.marks s t _ _ c.unwrap-counts.result c.in-Ok-2.least _ loaded sealed.network sealed.best rest cut
