use Rattle.std.proofs.Common.{Some, None, Ok, Err, sym, refl, ap, ◌∙◌, subst, arith}
use Rattle.std.proofs.lemmas.Result.{err_from_is_err_and}
use Rattle.sheet.specs.Places.{entry_at, HandedOut}
use Rattle.sheet.specs.Readers.{cursor}
use Rattle.sheet.specs.Sound.{There}
use Rattle.sheet.proofs.Turns.{handed_at, turn_falls}
use Rattle.sheet.proofs.Passes.{some_counted, Checking, checking_none, checking_more, checking_missing, checking_done, fault_answers}
use Rattle.sheet.proofs.whole.find_missing.Goals as goal
use Rattle.sheet.proofs.whole.find_missing.Goals.{In-Some}

-- the record that this turn was handed
turn : (c : In-Some) → HandedOut c.args.sheet.now (cursor c.loop-found.reader) (cursor c.next.new.self) c.in-Some.found
turn c =
    handed_at c.args.sheet.now _ (cursor c.loop-found.reader) (cursor c.next.new.self) _ (Ok (Some c.in-Some.found)) c.loop-found.invariant.0 (ap Ok c.in-Some.is) c.in_ok-found.ensures.handed

pub loop-found-init : goal.loop-found-init
loop-found-init c =
    (c.new-reader.ensures.sheet, subst (λ from. Checking c.args.sheet.now c.args.counts.entries from) (sym c.new-reader.ensures.cursor) (checking_none c.args.sheet.now c.args.counts.entries))

pub loop-found-smaller : goal.loop-found-smaller
loop-found-smaller c = turn_falls _ _ _ _ (turn (goal.at.loop-found-smaller c).In-Some)

pub loop-found-preserved : goal.loop-found-preserved
loop-found-preserved c =
    let same = c.in_ok-found.ensures.sheet ∙ c.loop-found.invariant.0 in (
      same,
      checking_more _ _ _ _ _ c.loop-found.invariant.1 (turn (goal.at.loop-found-preserved c).In-Some) (subst (λ bs. There c.args.counts.entries (entry_at bs c.in-Some.found)) same (c.highest_need.ensures.there _ c.if-highest_need-counts.false)),
    )

pub returns-then-highest_need-counts : goal.returns-then-highest_need-counts
returns-then-highest_need-counts c =
    let same = c.in_ok-found.ensures.sheet ∙ c.loop-found.invariant.0 in
    checking_missing _ c.args.counts _ _ _ c.requires c.loop-found.invariant.1 (turn (goal.at.returns-then-highest_need-counts c).In-Some)
    (λ there.
    let below = c.highest_need.ensures.least _ (some_counted _ _ c.requires) (subst (λ bs. There c.args.counts.entries (entry_at bs c.in-Some.found)) (sym same) there) in
    omega (arith, below, c.if-highest_need-counts.true))

pub returns-in_err-found : goal.returns-in_err-found
returns-in_err-found c =
    let (x, is, same) = err_from_is_err_and c.from_residual.result c.from_residual.ensures.1 in
    let told = handed_at c.args.sheet.now _ (cursor c.loop-found.reader) (cursor c.next.new.self) _ (Err c.in_err-found.field-0.0) c.loop-found.invariant.0 refl c.in_err-found.ensures.handed in
    rw (is, same) (fault_answers _ _ _ _ _ c.loop-found.invariant.1.progress told)

pub returns : goal.returns
returns c =
    let end = handed_at c.args.sheet.now _ (cursor c.loop-found.reader) (cursor c.next.new.self) _ (Ok None) c.loop-found.invariant.0 (ap Ok c.in_default.is) c.in_ok-found.ensures.handed in
    checking_done _ c.args.counts _ c.requires c.loop-found.invariant.1 end.0
