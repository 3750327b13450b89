-- The cheapest selections of a book's network are its best plans.
use Rattle.std.proofs.Common.{◌≡◌, ℕ, zero, suc, ◌+◌, ◌*◌, ◌/◌, ◌%◌, ◌<◌, ◌≤◌, true, false, cond, not, ◌&&◌, ltb, length, get_or, refl, subst, ⊎_elim, arith}
use Rattle.std.proofs.lemmas.Bool.{cases_Bool, cases_eq, cases_lt, lt-ltb}
use Rattle.std.proofs.lemmas.Bool.Decides.{nat_tests}
use Rattle.std.specs.List.{AllByRecursion}
use Rattle.std.proofs.ByRecursion.{All-get_or, All-from_get_or}
use Rattle.network.specs.Nets.{Net}
use Rattle.network.specs.Cuts.{Selection, sum_below, node_cost, leaves, arc_cost, cost, Cheapest, CheapestCost}
use Rattle.network.proofs.Sums.{sum_zero, sum_at_most, part_le_sum}
use Rattle.book.specs.Books.{Book, no_amounts, no_need, binding, network_of}
use Rattle.book.specs.Plans.{Plan, total_earnings, earned, paid, BestPlans}

-- a book within its bounds
pub record SoundBook (b : Book) : Type 0 where
  pub few : length b.entries ≤ 4096
  pub small : AllByRecursion (λ x. (x.earning ≤ 1000000) × (x.cost ≤ 1000000)) b.entries
  pub few_needs : length b.needs ≤ 16384

-- two pairs of sums balance where the parts do
sums_balance : (n : ℕ) (f g h k : ℕ → ℕ) → ((u : ℕ) → f u + g u ≡ h u + k u) → sum_below n f + sum_below n g ≡ sum_below n h + sum_below n k
unfolding sum_below
sums_balance zero f g h k same = refl
sums_balance (suc n) f g h k same = omega (arith, sums_balance n f g h k same, same n)

-- what the arc along a need costs
need_cost : (b : Book) (X : Selection) (i : ℕ) → i < length b.needs → arc_cost (network_of b) X (2 * i) ≡ cond (X (get_or b.needs i no_need).entry && not (X (get_or b.needs i no_need).needed)) binding 0
need_cost b X i there =
    let inside : ltb (2 * i) (2 * length b.needs) ≡ true = lt-ltb (2 * i) (2 * length b.needs) (omega arith) in
    let even : (2 * i) % 2 ≡ 0 = omega arith in
    let odd : (2 * i + 1) % 2 ≡ 1 = omega arith in
    let here : (2 * i) / 2 ≡ i = omega arith in
    let back : (2 * i + 1) / 2 ≡ i = omega arith in
    simp (inside, even, odd, here, back)

-- a plan does not leave along a need
need_kept : (b : Book) (X : Selection) (i : ℕ) → Plan b X → i < length b.needs → arc_cost (network_of b) X (2 * i) ≡ 0
need_kept b X i plan there =
    let kept = All-get_or (λ x. X x.entry ≡ true → X x.needed ≡ true) b.needs i no_need there plan in
    rw (need_cost b X i there) (grind (arith, cases_Bool (X (get_or b.needs i no_need).entry), cases_Bool (X (get_or b.needs i no_need).needed), kept))

-- an arc along which nothing can be sent costs nothing
free_arc : (v : Net) (X : Selection) (a : ℕ) → v.residual a ≡ 0 → arc_cost v X a ≡ 0
free_arc v X a none = rw none (grind (arith, cases_Bool (leaves X (v.graph.ends a))))

-- a plan pays for no arc
no_arc_paid : (b : Book) (X : Selection) (a : ℕ) → Plan b X → arc_cost (network_of b) X a ≡ 0
no_arc_paid b X a plan = ⊎_elim (free_arc (network_of b) X a) along (cases_eq ((network_of b).residual a) 0)
  where
    along : ((network_of b).residual a ≡ 0 → ⊥) → arc_cost (network_of b) X a ≡ 0
    along some =
        let need : (a < 2 * length b.needs) × (a % 2 ≡ 0) = grind (arith, nat_tests) in
        subst (λ k. arc_cost (network_of b) X k ≡ 0) (omega arith) (need_kept b X (a / 2) plan (omega arith))

-- what the nodes pay is what all entries earn less the net of those selected
nodes_paid : (b : Book) (X : Selection) → sum_below (length b.entries) (node_cost (network_of b) X) + earned b X ≡ total_earnings b + paid b X
nodes_paid b X = sums_balance (length b.entries) _ _ _ _ (λ u. grind (arith, cases_Bool (X u)))

-- a plan costs the total earnings less its net
plan_costs : (b : Book) (X : Selection) → Plan b X → cost (network_of b) X + earned b X ≡ total_earnings b + paid b X
plan_costs b X plan =
    let nodes = nodes_paid b X in
    let arcs = sum_zero 32768 (arc_cost (network_of b) X) (λ a _. no_arc_paid b X a plan) in
    omega arith

-- the selection that holds no entry
abbrev nothing : Selection
nothing u = false

-- it is a plan
nothing_plan : (b : Book) → Plan b nothing
nothing_plan b = All-from_get_or (λ x. nothing x.entry ≡ true → nothing x.needed ≡ true) b.needs no_need (λ i there never. never)

-- it costs the total earnings
nothing_costs : (b : Book) → cost (network_of b) nothing ≡ total_earnings b
nothing_costs b =
    let costs = plan_costs b nothing (nothing_plan b) in
    let earns = sum_zero (length b.entries) (λ u. cond (nothing u) (get_or b.entries u no_amounts).earning 0) (λ u _. refl) in
    let pays = sum_zero (length b.entries) (λ u. cond (nothing u) (get_or b.entries u no_amounts).cost 0) (λ u _. refl) in
    omega arith

-- all entries of a sound book earn less than what can be sent along a need
total_small : (b : Book) → SoundBook b → total_earnings b < binding
total_small b sound =
    let most = sum_at_most (length b.entries) 1000000 (λ u. (get_or b.entries u no_amounts).earning) (λ u there. (All-get_or _ b.entries u no_amounts there sound.small).0) in
    omega arith

-- a selection that breaks a need pays for the need's arc
broken_costs : (b : Book) (X : Selection) (i : ℕ) → SoundBook b → i < length b.needs → X (get_or b.needs i no_need).entry ≡ true → X (get_or b.needs i no_need).needed ≡ false → binding ≤ cost (network_of b) X
broken_costs b X i sound there inside outside =
    let part = part_le_sum 32768 (2 * i) (arc_cost (network_of b) X) (omega (arith, sound.few_needs)) in
    let paid : arc_cost (network_of b) X (2 * i) ≡ binding = rw (need_cost b X i there, inside, outside) in
    omega arith

-- so a selection that costs less than that breaks no need
cheap_plan : (b : Book) (X : Selection) → SoundBook b → cost (network_of b) X < binding → Plan b X
cheap_plan b X sound cheap = All-from_get_or _ b.needs no_need (λ i there inside. ⊎_elim
    (λ (kept : X (get_or b.needs i no_need).needed ≡ true). kept)
    (λ (outside : X (get_or b.needs i no_need).needed ≡ false). absurd (omega (arith, broken_costs b X i sound there inside outside)))
    (cases_Bool (X (get_or b.needs i no_need).needed)))

-- a cheapest selection costs no more than the one that holds no entry, so it is a plan
cheapest_plan : (b : Book) (X : Selection) → SoundBook b → Cheapest (network_of b) X → Plan b X
cheapest_plan b X sound cheapest = cheap_plan b X sound (omega (arith, cheapest nothing, nothing_costs b, total_small b sound))

-- a plan of the greatest net costs no more than any other plan, nor than a selection that breaks a need
greatest_cheapest : (b : Book) (X : Selection) → SoundBook b → Plan b X → ((Y : Selection) → Plan b Y → earned b Y + paid b X ≤ earned b X + paid b Y) → Cheapest (network_of b) X
greatest_cheapest b X sound plan greatest Y = ⊎_elim
    (λ (cheap : cost (network_of b) Y < binding). among_plans Y (cheap_plan b Y sound cheap))
    (λ (dear : binding ≤ cost (network_of b) Y). omega (arith, among_plans nothing (nothing_plan b), nothing_costs b, total_small b sound))
    (cases_lt (cost (network_of b) Y) binding)
  where
    among_plans : (Y : Selection) → Plan b Y → cost (network_of b) X ≤ cost (network_of b) Y
    among_plans Y other = omega (arith, plan_costs b X plan, plan_costs b Y other, greatest Y other)

-- the cheapest selections are the plans of the greatest net
pub plans_are_best : (b : Book) → SoundBook b → BestPlans b
plans_are_best b sound = record {
  plans = λ X. cheapest_plan b X sound;
  costs = plan_costs b;
  greatest = λ X Y cheapest plan. omega (arith, plan_costs b X (cheapest_plan b X sound cheapest), plan_costs b Y plan, cheapest Y);
  only = λ X. greatest_cheapest b X sound;
}

-- a cheapest selection costs no more than all entries earn
pub within_earnings : (b : Book) (v : Net) (c : ℕ) → v ≡ network_of b → CheapestCost v c → c ≤ total_earnings b
within_earnings b v c same cut = let (X, cheapest, is) = subst (λ w. CheapestCost w c) same cut in omega (arith, cheapest nothing, nothing_costs b)
