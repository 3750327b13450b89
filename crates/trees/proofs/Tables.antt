-- What a write to one record of a table changes of its meaning.
use Rattle.std.proofs.Common.{◌≡◌, ℕ, zero, suc, ◌<◌, ◌≤◌, Bool, List, length, set, replicate, Option, refl, ap, ◌∙◌, arith, length-set}
use lib.ListN.{length-replicate}
use Rattle.std.proofs.lemmas.List.{get_or-set_same, get_or-set_other}
use Rattle.std.proofs.lemmas.Bool.Decides.{nat_tests}
use Rattle.network.specs.declared.terminal.Terminal.{Terminal}
use Rattle.network.specs.Nets.{at}
use Rattle.trees.specs.declared.lane.Lane.{Lane}
use Rattle.trees.specs.declared.lane.Lane.TheVariants.{Waiting, Orphans}
use Rattle.trees.specs.declared.lane.Lanes.{Lanes}
use Rattle.trees.specs.declared.work.Parent.{Parent}
use Rattle.trees.specs.declared.work.Tree.{Tree}
use Rattle.trees.specs.declared.work.Work.{Work}
use Rattle.trees.specs.Forests.{Forest, blank, work_at, put_lane, forest, terminal_of, slots, cleared, at_lane, with_tree, with_parent, with_queued, with_stage}

pub work_at_set : (ws : List Work) (u : ℕ) (w : Work) (k : ℕ) → u < length ws → work_at (set ws u w) k ≡ at (work_at ws) u w k
work_at_set ws u w k h = grind (arith, nat_tests, get_or-set_same, get_or-set_other)

-- what a forest says of a node
abbrev told : Forest → ℕ → Option Terminal × Parent × (Bool × Bool) × ℕ
told f k = (f.tree k, f.parent k, (f.queued Waiting k, f.queued Orphans k), f.stage k)

-- forests of one size that say the same of each node
same_forest : (f g : Forest) → f.size ≡ g.size → ((k : ℕ) → told f k ≡ told g k) → f ≡ g
same_forest f g sizes same = λ i. record {
  size = sizes i;
  tree = λ k. (same k i).0;
  parent = λ k. (same k i).1;
  queued = λ l k. queued l k i;
  stage = λ k. (same k i).3;
}
  where
    queued : (l : Lane) (k : ℕ) → f.queued l k ≡ g.queued l k
    queued Waiting k = ap (λ x. x.2.0) (same k)
    queued Orphans k = ap (λ x. x.2.1) (same k)

-- w with another tree, with another parent, and with another stage
abbrev pub put_tree : Tree → Work → Work
put_tree t w = record { tree = t; parent = w.parent; queued = w.queued; slots = w.slots; stage = w.stage }

abbrev pub put_parent : Parent → Work → Work
put_parent p w = record { tree = w.tree; parent = p; queued = w.queued; slots = w.slots; stage = w.stage }

abbrev pub put_stage : ℕ → Work → Work
put_stage s w = record { tree = w.tree; parent = w.parent; queued = w.queued; slots = w.slots; stage = s }

-- and with other marks, and with other nodes at its place
abbrev pub put_queued : Lanes Bool → Work → Work
put_queued q w = record { tree = w.tree; parent = w.parent; queued = q; slots = w.slots; stage = w.stage }

abbrev pub put_slots : Lanes ℕ → Work → Work
put_slots s w = record { tree = w.tree; parent = w.parent; queued = w.queued; slots = s; stage = w.stage }

pub forest_tree : (ws : List Work) (u : ℕ) (t : Tree) → u < length ws → forest (set ws u (put_tree t (work_at ws u))) ≡ with_tree (forest ws) u (terminal_of t)
forest_tree ws u t h = same_forest _ _ (length-set ws u _) (λ k. grind (arith, nat_tests, work_at_set ws u (put_tree t (work_at ws u)) k h))

pub forest_parent : (ws : List Work) (u : ℕ) (p : Parent) → u < length ws → forest (set ws u (put_parent p (work_at ws u))) ≡ with_parent (forest ws) u p
forest_parent ws u p h = same_forest _ _ (length-set ws u _) (λ k. grind (arith, nat_tests, work_at_set ws u (put_parent p (work_at ws u)) k h))

pub forest_stage : (ws : List Work) (u s : ℕ) → u < length ws → forest (set ws u (put_stage s (work_at ws u))) ≡ with_stage (forest ws) u s
forest_stage ws u s h = same_forest _ _ (length-set ws u _) (λ k. grind (arith, nat_tests, work_at_set ws u (put_stage s (work_at ws u)) k h))

pub forest_queued : (ws : List Work) (u : ℕ) (l : Lane) (b : Bool) (q : Lanes Bool) → u < length ws → q ≡ put_lane l b (work_at ws u).queued → forest (set ws u (put_queued q (work_at ws u))) ≡ with_queued (forest ws) l u b
forest_queued ws u Waiting b q h is = same_forest _ _ (length-set ws u _) (λ k. grind (arith, nat_tests, work_at_set ws u (put_queued q (work_at ws u)) k h))
forest_queued ws u Orphans b q h is = same_forest _ _ (length-set ws u _) (λ k. grind (arith, nat_tests, work_at_set ws u (put_queued q (work_at ws u)) k h))

pub forest_slots : (ws : List Work) (u : ℕ) (s : Lanes ℕ) → u < length ws → forest (set ws u (put_slots s (work_at ws u))) ≡ forest ws
forest_slots ws u s h = same_forest _ _ (length-set ws u _) (λ k. grind (arith, nat_tests, work_at_set ws u (put_slots s (work_at ws u)) k h))

pub slots_put : (ws : List Work) (u : ℕ) (l : Lane) (x : ℕ) (s : Lanes ℕ) → u < length ws → s ≡ put_lane l x (work_at ws u).slots → slots (set ws u (put_slots s (work_at ws u))) ≡ at_lane (slots ws) l (at (slots ws l) u x)
slots_put ws u l x s h is = λ i m k. each l m k is i
  where
    each : (l m : Lane) (k : ℕ) → s ≡ put_lane l x (work_at ws u).slots → slots (set ws u (put_slots s (work_at ws u))) m k ≡ at_lane (slots ws) l (at (slots ws l) u x) m k
    each Waiting Waiting k is = grind (arith, nat_tests, work_at_set ws u (put_slots s (work_at ws u)) k h)
    each Waiting Orphans k is = grind (arith, nat_tests, work_at_set ws u (put_slots s (work_at ws u)) k h)
    each Orphans Waiting k is = grind (arith, nat_tests, work_at_set ws u (put_slots s (work_at ws u)) k h)
    each Orphans Orphans k is = grind (arith, nat_tests, work_at_set ws u (put_slots s (work_at ws u)) k h)

-- a write that leaves the places of the rings
pub slots_same : (ws : List Work) (u : ℕ) (w : Work) → u < length ws → w.slots ≡ (work_at ws u).slots → slots (set ws u w) ≡ slots ws
slots_same ws u w h same = λ i l k. each l k i
  where
    each : (l : Lane) (k : ℕ) → slots (set ws u w) l k ≡ slots ws l k
    each l k = grind (arith, nat_tests, work_at_set ws u w k h)

-- a write leaves the number of records
pub few_kept : (ws : List Work) (u : ℕ) (w : Work) → length ws ≤ 4096 → length (set ws u w) ≤ 4096
few_kept ws u w few = omega (arith, length-set ws u w)

-- a table of blank records
blank_at : (n u : ℕ) → work_at (replicate n blank) u ≡ blank
blank_at zero u = refl
blank_at (suc n) zero = refl
blank_at (suc n) (suc u) = blank_at n u

forest_blank : (n : ℕ) → forest (replicate n blank) ≡ cleared n
forest_blank n = same_forest _ _ (length-replicate n blank) (λ k. rw (blank_at n k))

pub forest_filled : (ws : List Work) (n : ℕ) (w : Work) → ws ≡ replicate n w → w ≡ blank → forest ws ≡ cleared n
forest_filled ws n w filled is = ap forest (filled ∙ ap (λ (x : Work). replicate n x) is) ∙ forest_blank n
