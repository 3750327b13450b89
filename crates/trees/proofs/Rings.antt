-- A ring with a node put behind its last, and with its first taken away.
use Rattle.std.proofs.Common.{◌≡◌, ℕ, ◌+◌, ◌-◌, ◌<◌, ◌≤◌, Bool, true, false, sym, refl, ap, subst, ◌∙◌, arith}
use Rattle.std.proofs.lemmas.Bool.{both_ways}
use Rattle.std.proofs.lemmas.Bool.Decides.{nat_tests}
use Rattle.network.specs.Nets.{at}
use Rattle.trees.specs.declared.ring.Ring.{Ring}
use Rattle.trees.specs.Forests.{empty_ring}
use Rattle.trees.specs.Rings.{wrap, Held}
use Rattle.trees.proofs.Tallies.{tally_le, tally_more, tally_less, tally_empty}

-- the places of a ring lie in the table, and none is another
pub wrap_below : (n h i : ℕ) → h < n → i < n → wrap n (h + i) < n
wrap_below n h i inside small = grind (arith, nat_tests)

pub wrap_apart : (n h i j : ℕ) → h < n → i < n → j < n → wrap n (h + i) ≡ wrap n (h + j) → i ≡ j
wrap_apart n h i j inside small_i small_j same = grind (arith, nat_tests)

-- the first place, and those after it
wrap_first : (n h : ℕ) → h < n → wrap n (h + 0) ≡ h
wrap_first n h inside = grind (arith, nat_tests)

pub wrap_next : (n h i : ℕ) → h < n → i + 1 < n → wrap n (wrap n (h + 1) + i) ≡ wrap n (h + (i + 1))
wrap_next n h i inside small = grind (arith, nat_tests)

-- a ring with no place, where nothing is marked
pub held_none : (n : ℕ) (slot : ℕ → ℕ) → Held n (λ _. false) slot empty_ring
held_none n slot = record {
  inside = omega arith;
  count = sym (tally_empty n (λ _. false) (λ _ _. refl));
  there = λ i small. absurd (omega arith);
  marked = λ i small. absurd (omega arith);
  distinct = λ i j small _ _. absurd (omega arith);
}

-- one place more, with a node that was not marked
pub held_more : (n : ℕ) (m : ℕ → Bool) (slot : ℕ → ℕ) (r : Ring) (u : ℕ) → Held n m slot r → u < n → m u ≡ false → Held n (at m u true) (at slot (wrap n (r.head + r.count)) u) (record { head = r.head; count = r.count + 1 })
held_more n m slot r u held there new =
    let h = r.head in
    let c = r.count in
    let more = tally_more n m u there new in
    let room : c < n = omega (arith, tally_le n (at m u true), held.count) in
    let inside = held.inside (omega arith) in
    let place : ℕ → ℕ = λ i. wrap n (h + i) in
    let last : (i : ℕ) → i < c + 1 → place i ≡ place c → i ≡ c = λ i small same. wrap_apart n h i c inside (omega arith) room same in
    let other : (i : ℕ) → i < c → slot (place i) ≡ u → ⊥ = λ i small same. both_ways (m u) new (rw (← same) (held.marked i small)) in
    record {
      inside = held.inside;
      count = omega (arith, held.count);
      there = λ i small. grind (arith, nat_tests, held.there i);
      marked = λ i small. grind (arith, nat_tests, held.marked i);
      distinct = λ i j small_i small_j same. grind (arith, nat_tests, held.distinct i j, last i, last j, other i, other j);
    }

-- the first place left out, with its node no longer marked
pub held_less : (n : ℕ) (m : ℕ → Bool) (slot : ℕ → ℕ) (r : Ring) → Held n m slot r → 0 < r.count → Held n (at m (slot r.head) false) slot (record { head = wrap n (r.head + 1); count = r.count - 1 })
held_less n m slot r held some =
    let h = r.head in
    let c = r.count in
    let place : ℕ → ℕ = λ i. wrap n (h + i) in
    let u = slot h in
    let few : c ≤ n = omega (arith, tally_le n m, held.count) in
    let inside = held.inside (omega (arith, some, few)) in
    let first = wrap_first n h inside in
    let less = tally_less n m u (subst (λ x. slot x < n) first (held.there 0 some)) (subst (λ x. m (slot x) ≡ true) first (held.marked 0 some)) in
    let next : (i : ℕ) → i < c - 1 → slot (wrap n (wrap n (h + 1) + i)) ≡ slot (place (i + 1)) = λ i small. ap slot (wrap_next n h i inside (omega arith)) in
    let other : (i : ℕ) → i + 1 < c → slot (place (i + 1)) ≡ u → ⊥ = λ i small same. omega (arith, held.distinct (i + 1) 0 small some (same ∙ ap slot (sym first))) in
    record {
      inside = λ any. grind (arith, nat_tests, held.inside);
      count = omega (arith, held.count);
      there = λ i small. rw (next i small) (held.there (i + 1) (omega arith));
      marked = λ i small. rw (next i small) (grind (arith, nat_tests, other i, held.marked (i + 1)));
      distinct = λ i j small_i small_j same. omega (arith, held.distinct (i + 1) (j + 1) (omega arith) (omega arith) (cc (next i small_i, next j small_j)));
    }
