use Rattle.std.proofs.Common.{◌≡◌, refl}
use Rattle.trees.specs.Forests.{slots, no_queues}
use Rattle.trees.proofs.Queueing.{sound_is, sound_cleared}
use Rattle.trees.proofs.Tables.{forest_filled}
use Rattle.search.proofs.table.Table.cleared.Goals as goal

pub invariant_of-result-clause-kept : goal.invariant_of-result-clause-kept
invariant_of-result-clause-kept c =
    let ((head, count), (first, length)) = c.default.ensures in
    let rings : c.default.result ≡ no_queues = λ i. record { waiting = record { head = head i; count = count i }; orphans = record { head = first i; count = length i } } in
    sound_is (forest_filled _ _ _ (c.fill.ensures.after (λ _ same. same)) c.blank.ensures) refl rings (sound_cleared _ (slots c.fill.new.self))
