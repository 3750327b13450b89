-- A queue as a ring: its places lie in the records, and it holds exactly the nodes that are marked as queued.
use Rattle.std.specs.Prelude.{◌≡◌, ℕ, ◌+◌, ◌-◌, ◌<◌, ◌≤◌, Bool, true, false, cond, Some, None, Option, nat_lt}
use Rattle.network.specs.Cuts.{sum_below}
use Rattle.trees.specs.declared.lane.Lane.{Lane}
use Rattle.trees.specs.declared.lane.Lanes.{Lanes}
use Rattle.trees.specs.declared.ring.Ring.{Ring}
use Rattle.trees.specs.Forests.{Forest, lane_of, with_queued}

-- how many numbers below n a set holds
abbrev pub tally : ℕ → (ℕ → Bool) → ℕ
tally n m = sum_below n (λ u. cond (m u) 1 0)

-- the place after the last is the first
abbrev pub wrap : ℕ → ℕ → ℕ
wrap n i = cond (nat_lt i n) i (i - n)

-- the ring r holds each node of m once
pub record Held (n : ℕ) (m : ℕ → Bool) (slot : ℕ → ℕ) (r : Ring) : Type 0 where
  pub inside : 0 < n → r.head < n
  pub count : r.count ≡ tally n m
  pub there : (i : ℕ) → i < r.count → slot (wrap n (r.head + i)) < n
  pub marked : (i : ℕ) → i < r.count → m (slot (wrap n (r.head + i))) ≡ true
  pub distinct : (i j : ℕ) → i < r.count → j < r.count → slot (wrap n (r.head + i)) ≡ slot (wrap n (r.head + j)) → i ≡ j

-- both queues hold what they say
abbrev pub Sound : Forest → (Lane → ℕ → ℕ) → Lanes Ring → Type 0
Sound f slot q = (l : Lane) → Held f.size (f.queued l) (slot l) (lane_of l q)

-- nobody is in the queue
abbrev pub Empty : Forest → Lane → Type 0
Empty f l = (u : ℕ) → u < f.size → f.queued l u ≡ false

-- what is picked from the queue l of f, which leaves g: the node, no longer queued, or none where none is queued
abbrev pub Picked : Lane → Forest → Forest → Option ℕ → Type 0
Picked l f g None = (g ≡ f) × Empty f l
Picked l f g (Some u) = (u < f.size) × (f.queued l u ≡ true) × (g ≡ with_queued f l u false)
