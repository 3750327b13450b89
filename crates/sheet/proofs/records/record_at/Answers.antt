use Rattle.std.proofs.Common.{◌≡◌, ◌+◌, Some, Ok, get_or, sym, refl, subst, arith}
use Rattle.std.proofs.lemmas.Bool.{false≢true}
use Rattle.std.proofs.lemmas.Grind.{common_steps}
use Rattle.sheet.specs.Format.{Entry}
use Rattle.sheet.specs.Sound.{InRange}
use Rattle.sheet.specs.Places.{Cursor, entry_at}
use Rattle.sheet.proofs.Standing.{stood, stood_at}
use Rattle.sheet.proofs.Turns.{in_turn}
use Rattle.sheet.proofs.Questions.{Laid, laid_is, cut_short, amount_range, need_order, handed_out}
use Rattle.sheet.proofs.records.record_at.Goals as goal
use Rattle.sheet.proofs.records.record_at.Goals.{After-layout-found}

-- what `layout` laid is the record at the place
found : (c : After-layout-found) → Laid c.args.sheet.now c.args.number c.args.at c.layout-found.result
found c =
    laid_is _ _ _ _ _ _ (λ k. (c.type_inv.sheet k).fits) c.requires c.if-number-ge-MOST_ENTRIES.false refl c.if-map-ge64.false
    (grind (arith, common_steps)) (grind (arith, common_steps)) c.layout-found.ensures

-- the entry at its places
entry : (c : After-layout-found) → stood c.args.sheet.now c.args.at (get_or c.args.sheet.now c.args.at 0) c.in_ok-count.count ≡ entry_at c.args.sheet.now c.layout-found.result
entry c = stood_at _ _ _ _ _ _ c.layout-found.ensures

pub returns-then-found-sheet : goal.returns-then-found-sheet
returns-then-found-sheet c =
    cut_short _ _ _ _ (found (goal.at.returns-then-found-sheet c).After-layout-found) c.if-found-sheet.true

pub returns-then-not-amounts_in_range : goal.returns-then-not-amounts_in_range
returns-then-not-amounts_in_range c =
    amount_range _ _ _ _ (found (goal.at.returns-then-not-amounts_in_range c).After-layout-found) c.if-found-sheet.false
    (λ both. false≢true (c.if-not-amounts_in_range.ensures.1 (subst (λ (e : Entry). InRange e.earning × InRange e.cost) (sym (entry (goal.at.returns-then-not-amounts_in_range c).After-layout-found)) both)))

pub returns-then-not-needs_ordered : goal.returns-then-not-needs_ordered
returns-then-not-needs_ordered c =
    let amounts = subst (λ (e : Entry). InRange e.earning × InRange e.cost) (entry (goal.at.returns-then-not-needs_ordered c).After-layout-found) (c.if-not-amounts_in_range.ensures.0 refl) in
    need_order _ _ _ _ (found (goal.at.returns-then-not-needs_ordered c).After-layout-found) c.if-found-sheet.false amounts.0 amounts.1
    (λ ordered. false≢true (c.if-not-needs_ordered.ensures.1 ordered))

pub returns : goal.returns
returns c =
    let bs = c.args.sheet.now in
    let from : Cursor = record { at = c.args.at; number = c.args.number } in
    let to : Cursor = record { at = c.layout-found.result.end; number = c.args.number + 1 } in
    let amounts = subst (λ (e : Entry). InRange e.earning × InRange e.cost) (entry (goal.at.returns c).After-layout-found) (c.if-not-amounts_in_range.ensures.0 refl) in
    let out = handed_out _ _ _ _ (found (goal.at.returns c).After-layout-found) c.if-found-sheet.false amounts.0 amounts.1 (c.if-not-needs_ordered.ensures.0 refl) in
    (out, in_turn bs from to (Ok (Some c.layout-found.result)) out)
