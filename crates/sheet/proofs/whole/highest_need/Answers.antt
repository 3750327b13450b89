use Rattle.std.proofs.Common.{◌≡◌, ◌-◌, length, get_or, ap, ◌∙◌, arith}
use Rattle.std.proofs.lemmas.Option.{unwrap_or-slice_get}
use Rattle.std.specs.Option.{unwrap_or}
use Rattle.sheet.specs.Places.{entry_at}
use Rattle.sheet.specs.Readers.{sheet_of}
use Rattle.sheet.proofs.Needs.{length_needs_at, last_is_highest, highest_is_there}
use Rattle.sheet.proofs.whole.highest_need.Goals as goal
use Rattle.sheet.proofs.whole.highest_need.Goals.{After-unwrap_or}

-- the result is the last need
last : (c : After-unwrap_or) → let ns = (entry_at (sheet_of c.args.reader.now) c.args.found.now).needs in c.unwrap_or.result ≡ get_or ns (length ns - 1) 0
last c =
    let ns = (entry_at (sheet_of c.args.reader.now) c.args.found.now).needs in
    let place : c.saturating_sub.result ≡ length ns - 1 = omega (arith, c.saturating_sub.ensures, length_needs_at (sheet_of c.args.reader.now) c.args.found.now.needs c.args.found.now.count) in
    c.unwrap_or.ensures ∙ ap (λ o. unwrap_or o 0) c.need.ensures ∙ unwrap_or-slice_get ns c.saturating_sub.result 0 ∙ ap (λ j. get_or ns j 0) place

pub returns-clause-there : goal.returns-clause-there
returns-clause-there c = λ n above. last_is_highest c.requires.0 n _ _ c.requires.1 (last c) above

pub returns-clause-least : goal.returns-clause-least
returns-clause-least c = λ n some there. highest_is_there n _ _ (last c) some there
