-- The network that a table tells keeps the laws of a network, and what is spared twice is spared. Assumes nothing.
use Rattle.std.specs.Prelude.{◌≡◌, ℕ, zero, suc, ◌+◌, ◌*◌, ◌/◌, ◌%◌, ◌^◌, ◌<◌, ◌≤◌, Bool, true, false, cond, ◌⊎◌, List, ◌∷◌, Some, filter, ◌≢◌, nat_eq, nat_lt, refl}
use Rattle.std.proofs.Common.{sym, ap, ◌∙◌, subst₂, inl, inr, ⊎_elim, arith}
use Rattle.std.proofs.lemmas.Bool.{ltb-true, lt-ltb, eqb-true, eq-eqb, ne_eqb, cases_eq}
use Rattle.std.proofs.lemmas.Option.{cond_some, same_Some}
use Rattle.std.specs.Borrow.{MutBor}
use Rattle.std.specs.List.{slice_get, range_with_len}
use Rattle.network.specs.declared.terminal.Terminal.TheVariants.{Source, Sink}
use Rattle.network.specs.Nets.{Ends, LawfulGraph, Lawful, Distinct, reversed}
use Rattle.book.specs.declared.record.Record.{Record}
use Rattle.book.specs.Books.{mate, amount, paired}
use Rattle.book.specs.Calls.{SparedBy}
use Rattle.book.specs.Tables.{Columns, amounts_in, network_in, SmallAmounts, HeadsThere, SmallPairs}

-- what stands at a place of a list that may have y in front
at_place : (b : Bool) (x y k : ℕ) (xs : List ℕ) → slice_get (cond b (y ∷ xs) xs) k ≡ Some x → ((b ≡ true) × (x ≡ y) × (k ≡ 0)) ⊎ ((j : ℕ) × (slice_get xs j ≡ Some x) × (k ≡ cond b (suc j) j))
at_place true x y zero xs is = inl (refl, cc, refl)
at_place true x y (suc k) xs is = inr (k, is, refl)
at_place false x y k xs is = inr (k, is, refl)

at_later_place : (b : Bool) (x y k : ℕ) (xs : List ℕ) → slice_get xs k ≡ Some x → slice_get (cond b (y ∷ xs) xs) (cond b (suc k) k) ≡ Some x
at_later_place true x y k xs is = is
at_later_place false x y k xs is = is

-- the numbers from a on that pass a test: they pass, each of them is there, and at one place only
kept_pass : (p : ℕ → Bool) (a n k x : ℕ) → slice_get (filter p (range_with_len a n)) k ≡ Some x → (a ≤ x) × (x < a + n) × (p x ≡ true)
kept_pass p a zero k x is = cc
kept_pass p a (suc n) k x is =
    ⊎_elim
    (λ h. (omega (arith, h.1), omega (arith, h.1), ap p h.1 ∙ h.0))
    (λ h. let t = kept_pass p (a + 1) n h.0 x h.1 in (omega (arith, t.0), omega (arith, t.1), t.2))
    (at_place (p a) x a k (filter p (range_with_len (a + 1) n)) is)

kept_there : (p : ℕ → Bool) (a n x : ℕ) → a ≤ x → x < a + n → p x ≡ true → (k : ℕ) × (slice_get (filter p (range_with_len a n)) k ≡ Some x)
kept_there p a zero x from below pass = absurd (omega arith)
kept_there p a (suc n) x from below pass =
    let xs = filter p (range_with_len (a + 1) n) in
    ⊎_elim
    (λ (same : a ≡ x). (0, rw (ap p same ∙ pass) (ap Some same)))
    (λ (other : a ≡ x → ⊥). let later : (k : ℕ) × (slice_get xs k ≡ Some x) = kept_there p (a + 1) n x (omega (arith, other)) (omega arith) pass in (cond (p a) (suc later.0) later.0, at_later_place (p a) x a later.0 xs later.1))
    (cases_eq a x)

kept_once : (p : ℕ → Bool) (a n : ℕ) → Distinct (filter p (range_with_len a n))
kept_once p a zero j k x is_j is_k = cc
kept_once p a (suc n) j k x is_j is_k =
    let xs = filter p (range_with_len (a + 1) n) in
    let never : (i : ℕ) → slice_get xs i ≡ Some x → x ≡ a → ⊥ = λ i is same. omega (arith, (kept_pass p (a + 1) n i x is).0) in
    ⊎_elim
    (λ h. ⊎_elim (λ g. omega (arith, h.2, g.2)) (λ g. absurd (never g.0 g.1 h.1)) (at_place (p a) x a k xs is_k))
    (λ h. ⊎_elim (λ g. absurd (never h.0 h.1 g.1)) (λ g. h.2 ∙ ap (λ i. cond (p a) (suc i) i) (kept_once p (a + 1) n h.0 g.0 x h.1 g.1) ∙ sym g.2) (at_place (p a) x a k xs is_k))
    (at_place (p a) x a j xs is_j)

-- the arcs of a need: along it, and back
abbrev along : (ℕ → ℕ) → ℕ → Ends
along head i = record { tail = head (2 * i + 1); head = head (2 * i); reverse = 2 * i + 1 }

abbrev against : (ℕ → ℕ) → ℕ → Ends
against head i = record { tail = head (2 * i); head = head (2 * i + 1); reverse = 2 * i }

mate_even : (i : ℕ) → mate (2 * i) ≡ 2 * i + 1
mate_even i = rw (eq-eqb ((2 * i) % 2) 0 (omega arith))

mate_odd : (i : ℕ) → mate (2 * i + 1) ≡ 2 * i
mate_odd i = rw (ne_eqb ((2 * i + 1) % 2) 0 (omega arith)) (omega arith)

along_there : (n m : ℕ) (head : ℕ → ℕ) (i : ℕ) → i < m → (paired n m head).ends (2 * i) ≡ Some (along head i)
along_there n m head i h = rw (lt-ltb (2 * i) (2 * m) (omega arith), mate_even i)

against_there : (n m : ℕ) (head : ℕ → ℕ) (i : ℕ) → i < m → (paired n m head).ends (2 * i + 1) ≡ Some (against head i)
against_there n m head i h = rw (lt-ltb (2 * i + 1) (2 * m) (omega arith), mate_odd i)

-- what holds of both arcs of each need holds of each arc
each_arc : (n m : ℕ) (head : ℕ → ℕ) (P : ℕ → Ends → Type 0) → ((i : ℕ) → i < m → P (2 * i) (along head i)) → ((i : ℕ) → i < m → P (2 * i + 1) (against head i)) → (a : ℕ) (e : Ends) → (paired n m head).ends a ≡ Some e → P a e
each_arc n m head P even odd a e is =
    let t = cond_some (nat_lt a (2 * m)) (record { tail = head (mate a); head = head a; reverse = mate a }) e is in
    let inside : a < 2 * m = ltb-true a (2 * m) t.0 in
    ⊎_elim
    (λ (two : 2 * (a / 2) ≡ a). subst₂ P two (same_Some (along head (a / 2)) e (sym (along_there n m head (a / 2) (omega arith)) ∙ ap (paired n m head).ends two ∙ is)) (even (a / 2) (omega arith)))
    (λ (not : 2 * (a / 2) ≡ a → ⊥). let two : 2 * (a / 2) + 1 ≡ a = omega arith in subst₂ P two (same_Some (against head (a / 2)) e (sym (against_there n m head (a / 2) (omega arith)) ∙ ap (paired n m head).ends two ∙ is)) (odd (a / 2) (omega arith)))
    (cases_eq (2 * (a / 2)) a)

graph_lawful : (n m : ℕ) (head : ℕ → ℕ) → n ≤ 4096 → m ≤ 16384 → ((a : ℕ) → a < 2 * m → head a < n) → LawfulGraph (paired n m head)
graph_lawful n m head few few_needs inside =
    let g = paired n m head in
    record {
      few_nodes = few;
      small_code = each_arc n m head (λ a e. a < 32768) (λ i h. omega arith) (λ i h. omega arith);
      tail_there = each_arc n m head (λ a e. e.tail < n) (λ i h. inside (2 * i + 1) (omega arith)) (λ i h. inside (2 * i) (omega arith));
      other = each_arc n m head (λ a e. e.reverse ≢ a) (λ i h same. omega arith) (λ i h same. omega arith);
      back = each_arc n m head (λ a e. g.ends e.reverse ≡ Some (reversed a e)) (against_there n m head) (along_there n m head);
      own = λ u k a h is.
          let t = kept_pass (λ b. nat_eq (head (mate b)) u) 0 (2 * m) k a is in
          (record { tail = head (mate a); head = head a; reverse = mate a }, rw (lt-ltb a (2 * m) (omega (arith, t.1))), eqb-true (head (mate a)) u t.2);
      placed = each_arc n m head (λ a e. (k : ℕ) × (slice_get (g.arcs e.tail) k ≡ Some a))
          (λ i h. kept_there _ 0 (2 * m) (2 * i) (omega arith) (omega arith) (eq-eqb _ _ (ap head (mate_even i))))
          (λ i h. kept_there _ 0 (2 * m) (2 * i + 1) (omega arith) (omega arith) (eq-eqb _ _ (ap head (mate_odd i))));
      once = λ u h. kept_once (λ b. nat_eq (head (mate b)) u) 0 (2 * m);
    }

pub lawful : (c : Columns) (n m : ℕ) → n ≤ 4096 → m ≤ 16384 → SmallAmounts c n → HeadsThere c n m → SmallPairs c m → Lawful (network_in c n m)
lawful c n m few few_needs amounts heads pairs =
    let v = network_in c n m in
    let pair : (i : ℕ) → i < m → v.residual (2 * i) + v.residual (2 * i + 1) ≤ 2 ^ 40 = λ i h. rw (lt-ltb (2 * i) (2 * m) (omega arith), lt-ltb (2 * i + 1) (2 * m) (omega arith)) (omega (arith, pairs i h)) in
    record {
      graph = graph_lawful n m c.head few few_needs heads;
      small = λ t u h. rw (lt-ltb u n h) (elim t as (λ t. amount t (amounts_in c u) ≤ 2 ^ 40) [ Source ↦ omega (arith, (amounts u h).0) | Sink ↦ omega (arith, (amounts u h).1) ]);
      small_pair = each_arc n m c.head (λ a e. v.residual a + v.residual e.reverse ≤ 2 ^ 40) pair (λ i h. omega (arith, pair i h));
    }

-- records that n entries and m needs do not use are as they were, and then those that as many or more do not use
pub spared_then : {n m p q : ℕ} {a b c : MutBor (List Record)} → n ≤ p → m ≤ q → SparedBy n m a b → SparedBy p q b c → SparedBy p q a c
spared_then {n} {m} {p} {q} entries needs first second = record {
  same_table = second.same_table ∙ first.same_table;
  untouched = (
    second.untouched.0 ∙ first.untouched.0,
    λ k unused. second.untouched.1 k unused ∙ first.untouched.1 k (omega (arith, unused.0), omega (arith, unused.1, second.untouched.0)),
  );
}
