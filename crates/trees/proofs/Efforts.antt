-- What growth and adoption still have to do falls with every step.
use Rattle.std.proofs.Common.{◌≡◌, ℕ, suc, ◌+◌, ◌<◌, true, false, Some, None, arith}
use Rattle.std.proofs.lemmas.Bool.Decides.{nat_tests}
use Rattle.network.specs.declared.terminal.Terminal.{Terminal}
use Rattle.trees.specs.declared.lane.Lane.TheVariants.{Waiting, Orphans}
use Rattle.trees.specs.declared.work.Parent.{Parent}
use Rattle.trees.specs.Forests.{Forest, with_tree, with_queued, joined}
use Rattle.trees.specs.Trees.{by_tree, growth_left, adoption_left}
use Rattle.trees.proofs.Tallies.{sum_at, tally_at, tally_le}

pub growth_picked : (n u : ℕ) (f : Forest) → u < n → f.queued Waiting u ≡ true → growth_left n (with_queued f Waiting u false) + 1 ≡ growth_left n f
growth_picked n u f there is = grind (arith, nat_tests, tally_at n u (f.queued Waiting) false there)

pub adoption_picked : (n u : ℕ) (f : Forest) → u < n → f.queued Orphans u ≡ true → adoption_left n (with_queued f Orphans u false) + 1 ≡ adoption_left n f
adoption_picked n u f there is = grind (arith, nat_tests, tally_at n u (f.queued Orphans) false there)

pub growth_joined : (n u : ℕ) (f : Forest) (t : Terminal) (p : Parent) → u < n → f.tree u ≡ None → growth_left n (joined f t u p) < growth_left n f
growth_joined n u f t p there free =
    let trees = rw free at (sum_at n u f.tree (Some t) (λ o. by_tree o 2 0) there) in
    omega (arith, tally_at n u (f.queued Waiting) true there)

-- fewer nodes are in trees, and never more than n are orphans
pub adoption_freed : (n u : ℕ) (f f' : Forest) (t : Terminal) → u < n → f'.tree ≡ f.tree → f.tree u ≡ Some t → adoption_left n (with_tree f' u None) < adoption_left n f
adoption_freed n u f f' t there same in_tree =
    let trees = rw (same, in_tree) at (sum_at n u f'.tree None (λ o. by_tree o 0 (suc n)) there) in
    rw same (omega (arith, tally_le n (f'.queued Orphans)))
