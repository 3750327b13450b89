use Rattle.std.proofs.Common.{ℕ, ◌<◌, length, Some, None, Ok, Err, subst, arith, refl, ap, ◌∙◌, true-eqb}
use Rattle.std.proofs.lemmas.List.{nil_from_length}
use Rattle.std.proofs.lemmas.Result.{err_from_is_err_and}
use Rattle.std.proofs.lemmas.Grind.{common_steps}
use Rattle.sheet.specs.declared.refusal.SheetRefusal.TheVariants.{Empty}
use Rattle.sheet.specs.Places.{entry_at, HandedOut}
use Rattle.sheet.specs.Sound.{There}
use Rattle.sheet.specs.Readers.{cursor}
use Rattle.sheet.proofs.Turns.{handed_at, turn_falls}
use Rattle.sheet.proofs.Passes.{counting_none, counting_more, counting_done, fault_answers, settled}
use Rattle.sheet.proofs.whole.count.Goals as goal
use Rattle.sheet.proofs.whole.count.Goals.{In-Some}

-- the record that this turn was handed
turn : (c : In-Some) → HandedOut c.args.sheet.now (cursor c.loop-found.reader) (cursor c.next.new.self) c.in-Some.found
turn c =
    handed_at c.args.sheet.now _ (cursor c.loop-found.reader) (cursor c.next.new.self) _ (Ok (Some c.in-Some.found)) c.loop-found.invariant.0 (ap Ok c.in-Some.is) c.in_ok-found.ensures.handed

pub returns-then-is_empty : goal.returns-then-is_empty
returns-then-is_empty c =
    settled c.args.sheet.now (Err Empty) (nil_from_length c.args.sheet.now (true-eqb _ 0 c.if-is_empty.ensures))

pub loop-found-init : goal.loop-found-init
loop-found-init c =
    (c.new-reader.ensures.sheet, counting_none c.args.sheet.now _ _ c.new-reader.ensures.cursor c.default-counts.ensures.0 c.default-counts.ensures.1)

pub loop-found-smaller : goal.loop-found-smaller
loop-found-smaller c = turn_falls _ _ _ _ (turn (goal.at.loop-found-smaller c).In-Some)

pub loop-found-preserved : goal.loop-found-preserved
loop-found-preserved c =
    let same = c.in_ok-found.ensures.sheet ∙ c.loop-found.invariant.0 in
    let own = subst (λ bs. (n : ℕ) → c.highest_need.result < n → There n (entry_at bs c.in-Some.found)) same c.highest_need.ensures.there in (
      same,
      rw c.from.ensures (counting_more _ _ _ _ _ _ _ _ c.loop-found.invariant.1 (turn (goal.at.loop-found-preserved c).In-Some) own (grind (arith, common_steps)) (grind (arith, common_steps))),
    )

pub returns-in_err-found : goal.returns-in_err-found
returns-in_err-found c =
    let (x, is, same) = err_from_is_err_and c.from_residual.result c.from_residual.ensures.1 in
    let told = handed_at c.args.sheet.now _ (cursor c.loop-found.reader) (cursor c.next.new.self) _ (Err c.in_err-found.field-0.0) c.loop-found.invariant.0 refl c.in_err-found.ensures.handed in
    rw (is, same) (fault_answers _ _ _ _ _ c.loop-found.invariant.1.progress told)

pub returns : goal.returns
returns c =
    let end = handed_at c.args.sheet.now _ (cursor c.loop-found.reader) (cursor c.next.new.self) _ (Ok None) c.loop-found.invariant.0 (ap Ok c.in_default.is) c.in_ok-found.ensures.handed in
    counting_done _ _ _ _ c.loop-found.invariant.1 (λ none. grind (arith, common_steps, ap length none)) end.0
