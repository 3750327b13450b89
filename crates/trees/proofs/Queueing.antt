-- Both queues hold what they say, with a node put into one of them and with the first picked from it.
use Rattle.std.proofs.Common.{◌≡◌, ℕ, ◌+◌, ◌-◌, ◌<◌, Bool, true, false, refl, subst, arith}
use Rattle.network.specs.Nets.{at}
use Rattle.trees.specs.declared.lane.Lanes.{Lanes}
use Rattle.trees.specs.declared.ring.Ring.{Ring}
use Rattle.trees.specs.declared.lane.Lane.{Lane}
use Rattle.trees.specs.declared.lane.Lane.TheVariants.{Waiting, Orphans}
use Rattle.trees.specs.Forests.{Forest, lane_of, put_lane, at_lane, cleared, no_queues, with_queued}
use Rattle.trees.specs.Rings.{wrap, Held, Sound, Empty}
use Rattle.trees.proofs.Tallies.{tally_le, tally_more, tally_none}
use Rattle.trees.proofs.Rings.{wrap_below, held_none, held_more, held_less}

-- one queue changed, and the other as it was
sound_lane : (f : Forest) (slot : Lane → ℕ → ℕ) (q : Lanes Ring) (l : Lane) (u : ℕ) (b : Bool) (places : ℕ → ℕ) (r : Ring) → Sound f slot q → Held f.size (at (f.queued l) u b) places r → Sound (with_queued f l u b) (at_lane slot l places) (put_lane l r q)
sound_lane f slot q Waiting u b places r sound held Waiting = held
sound_lane f slot q Waiting u b places r sound held Orphans = sound Orphans
sound_lane f slot q Orphans u b places r sound held Waiting = sound Waiting
sound_lane f slot q Orphans u b places r sound held Orphans = held

at_lane_same : {A : Type 0} (f : Lane → A) (l m : Lane) → at_lane f l (f l) m ≡ f m
at_lane_same f Waiting Waiting = refl
at_lane_same f Waiting Orphans = refl
at_lane_same f Orphans Waiting = refl
at_lane_same f Orphans Orphans = refl

-- a ring with one place more, and with its first place left out
abbrev pub longer : Ring → Ring
longer r = record { head = r.head; count = r.count + 1 }

abbrev pub shorter : ℕ → Ring → Ring
shorter n r = record { head = wrap n (r.head + 1); count = r.count - 1 }

pub sound_put : (f : Forest) (slot : Lane → ℕ → ℕ) (q : Lanes Ring) (l : Lane) (u : ℕ) → Sound f slot q → u < f.size → f.queued l u ≡ false → Sound (with_queued f l u true) (at_lane slot l (at (slot l) (wrap f.size ((lane_of l q).head + (lane_of l q).count)) u)) (put_lane l (longer (lane_of l q)) q)
sound_put f slot q l u sound there new = sound_lane f slot q l u true _ _ sound (held_more f.size (f.queued l) (slot l) (lane_of l q) u (sound l) there new)

pub sound_picked : (f : Forest) (slot : Lane → ℕ → ℕ) (q : Lanes Ring) (l : Lane) → Sound f slot q → 0 < (lane_of l q).count → Sound (with_queued f l (slot l (lane_of l q).head) false) slot (put_lane l (shorter f.size (lane_of l q)) q)
sound_picked f slot q l sound some =
    let u = slot l (lane_of l q).head in
    let r = shorter f.size (lane_of l q) in
    let same : at_lane slot l (slot l) ≡ slot = λ i m. at_lane_same slot l m i in
    subst (λ (s : Lane → ℕ → ℕ). Sound (with_queued f l u false) s (put_lane l r q)) same (sound_lane f slot q l u false (slot l) r sound (held_less f.size (f.queued l) (slot l) (lane_of l q) (sound l) some))

-- an empty ring: no node is in the queue
pub none_queued : (f : Forest) (slot : Lane → ℕ → ℕ) (q : Lanes Ring) (l : Lane) → Sound f slot q → (lane_of l q).count ≡ 0 → Empty f l
none_queued f slot q l sound none = let held = sound l in tally_none f.size (f.queued l) (omega (arith, held.count))

-- a table and rings that mean the same
pub sound_is : {f g : Forest} {slot places : Lane → ℕ → ℕ} {q r : Lanes Ring} → f ≡ g → slot ≡ places → q ≡ r → Sound g places r → Sound f slot q
sound_is forests slots rings sound = rw (forests, slots, rings) sound

-- there is a place for a node that is not queued
pub put_room : (f : Forest) (slot : Lane → ℕ → ℕ) (q : Lanes Ring) (l : Lane) (u : ℕ) → Sound f slot q → u < f.size → f.queued l u ≡ false → (lane_of l q).count < f.size
put_room f slot q l u sound there new = let held = sound l in omega (arith, held.count, tally_more f.size (f.queued l) u there new, tally_le f.size (at (f.queued l) u true))

pub put_place : (f : Forest) (slot : Lane → ℕ → ℕ) (q : Lanes Ring) (l : Lane) (u : ℕ) → Sound f slot q → u < f.size → f.queued l u ≡ false → wrap f.size ((lane_of l q).head + (lane_of l q).count) < f.size
put_place f slot q l u sound there new = wrap_below f.size (lane_of l q).head (lane_of l q).count ((sound l).inside (omega arith)) (put_room f slot q l u sound there new)

-- where no node is queued, empty rings hold what they say
pub sound_cleared : (n : ℕ) (slot : Lane → ℕ → ℕ) → Sound (cleared n) slot no_queues
sound_cleared n slot Waiting = held_none n (slot Waiting)
sound_cleared n slot Orphans = held_none n (slot Orphans)
