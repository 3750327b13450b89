use Rattle.std.proofs.Common.{arith, ◌≡◌, None, Ok, sym, refl, ap, ◌∙◌}
use Rattle.std.proofs.lemmas.Grind.{common_steps}
use Rattle.std.proofs.lemmas.Result.{MatchResult-at_ok}
use Rattle.std.specs.Result.{is_ok}
use Rattle.sheet.specs.Readers.{sheet_of, cursor}
use Rattle.sheet.proofs.Turns.{no_turn, in_turn}
use Rattle.sheet.proofs.reading.Reader.next.Goals as goal

pub returns-then-self-clause-in_turn : goal.returns-then-self-clause-in_turn
returns-then-self-clause-in_turn c =
    let s = c.args.self.now in
    in_turn (sheet_of s) (cursor s) (cursor s) (Ok None) (c.if-self.true, refl)

pub returns-in_err-found-clause-in_turn : goal.returns-in_err-found-clause-in_turn
returns-in_err-found-clause-in_turn c =
    let s = c.args.self.now in
    no_turn _ (sheet_of s) (cursor s) c.record_at.result _ (sym c.map_err.ensures.variant ∙ ap is_ok c.in_err-found.was) c.record_at.ensures

pub returns-clause-handed : goal.returns-clause-handed
returns-clause-handed c =
    let is : c.record_at.result ≡ Ok c.in_ok-found.found = grind (arith, common_steps) in
    (MatchResult-at_ok _ _ c.in_ok-found.found is c.record_at.ensures).0
