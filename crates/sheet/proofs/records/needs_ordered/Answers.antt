use Rattle.std.proofs.Common.{◌<◌, ◌≤◌, ◌+◌, refl, sym, subst, ⊎_elim, arith}
use Rattle.std.proofs.lemmas.Bool.{cases_lt, false≢true}
use Rattle.sheet.specs.Layout.{InOrder}
use Rattle.sheet.proofs.Needs.{four_tell, ordered_from, in_order_from}
use Rattle.sheet.proofs.records.needs_ordered.Goals as goal

pub returns-then-sheet-found-ge8 : goal.returns-then-sheet-found-ge8
returns-then-sheet-found-ge8 c =
    four_tell _ _ _ _ c.requires.few _ _ _ _ c.need_in_order.ensures c.need_in_order-then-sheet-found-ge8.ensures c.need_in_order-then-sheet-found-ge8-2.ensures c.need_in_order-then-sheet-found-ge8-3.ensures

pub loop-j-init : goal.loop-j-init
loop-j-init c = λ k h. absurd (omega arith)

pub returns-then-not-need_in_order : goal.returns-then-not-need_in_order
returns-then-not-need_in_order c =
    (λ t. absurd (false≢true t), λ o. absurd (false≢true (c.if-not-need_in_order.ensures.1 (λ inside. in_order_from _ _ _ _ o _ inside))))

pub loop-j-preserved : goal.loop-j-preserved
loop-j-preserved c = λ k h.
    ⊎_elim (λ (l : k < c.loop-j.j). c.loop-j.invariant k l)
    (λ (l : c.loop-j.j ≤ k). subst (InOrder c.args.sheet.now c.args.found.now.needs c.args.found.now.number) (omega arith) (c.if-not-need_in_order.ensures.0 refl c.loop-j-test.true))
    (cases_lt k c.loop-j.j)

pub returns : goal.returns
returns c = (λ t. ordered_from _ _ _ _ (λ k h. c.loop-j.invariant k (omega (arith, c.loop-j-test.false))), λ o. refl)
