-- A row of capped cells keeps the laws of a network. Assumes nothing.
use Rattle.std.specs.Prelude.{◌≡◌, ℕ, zero, suc, ◌+◌, ◌-◌, ◌*◌, ◌%◌, ◌^◌, ◌<◌, ◌≤◌, Bool, true, false, cond, ◌⊎◌, List, [], ◌∷◌, ◌++◌, Some, ◌≢◌, nat_lt, refl}
use Rattle.std.proofs.Common.{ap, ◌∙◌, subst₂, inl, inr, ⊎_elim, arith}
use Rattle.std.proofs.lemmas.Bool.{ltb-true, lt-ltb, eq-eqb, ne_eqb, cases_eq}
use Rattle.std.proofs.lemmas.Option.{cond_some}
use Rattle.std.specs.List.{slice_get}
use Rattle.network.specs.declared.terminal.Terminal.TheVariants.{Source, Sink}
use Rattle.network.specs.Nets.{Ends, LawfulGraph, Lawful, reversed}
use Rattle.row.specs.declared.cell.Cell.{Cell}
use Rattle.row.specs.declared.cell.Way.TheVariants.{Right, Left}
use Rattle.row.specs.Cells.{Capped}
use Rattle.row.specs.Rows.{AllCapped, cell_at, count, owner, way_of, joins, ends_among, arcs_among, row_graph, of_cells}

-- a code is 2i or 2i + 1, where i owns the arc
owner_right : (i : ℕ) → owner (2 * i) ≡ i
owner_right i = omega arith

owner_left : (i : ℕ) → owner (2 * i + 1) ≡ i
owner_left i = omega arith

way_right : (i : ℕ) → way_of (2 * i) ≡ Right
way_right i = rw (eq-eqb ((2 * i) % 2) 0 (omega arith))

way_left : (i : ℕ) → way_of (2 * i + 1) ≡ Left
way_left i = rw (ne_eqb ((2 * i + 1) % 2) 0 (omega arith))

right_there : (n i : ℕ) → i + 1 < n → ends_among n (2 * i) ≡ Some (joins Right i)
right_there n i h = rw (owner_right i, way_right i, lt-ltb (i + 1) n h)

left_there : (n i : ℕ) → i + 1 < n → ends_among n (2 * i + 1) ≡ Some (joins Left i)
left_there n i h = rw (owner_left i, way_left i, lt-ltb (i + 1) n h)

-- what holds of both arcs of each cell but the last holds of each arc
each_arc : (n : ℕ) (P : ℕ → Ends → Type 0) → ((i : ℕ) → i + 1 < n → P (2 * i) (joins Right i)) → ((i : ℕ) → i + 1 < n → P (2 * i + 1) (joins Left i)) → (a : ℕ) (e : Ends) → ends_among n a ≡ Some e → P a e
each_arc n P right left a e h =
    let t = cond_some (nat_lt (owner a + 1) n) (joins (way_of a) (owner a)) e h in
    let inside : owner a + 1 < n = ltb-true (owner a + 1) n t.0 in
    ⊎_elim
    (λ (even : a % 2 ≡ 0). let w : way_of a ≡ Right = rw (eq-eqb (a % 2) 0 even) in subst₂ P (omega arith) (cc) (right (owner a) inside))
    (λ (odd : a % 2 ≡ 0 → ⊥). let w : way_of a ≡ Left = rw (ne_eqb (a % 2) 0 odd) in subst₂ P (omega arith) (cc) (left (owner a) inside))
    (cases_eq (a % 2) 0)

-- what stands at a place, of x and y where they are there
at_place : (b c : Bool) (x y k a : ℕ) → slice_get (cond b (x ∷ []) [] ++ cond c (y ∷ []) []) k ≡ Some a → ((b ≡ true) × (k ≡ 0) × (a ≡ x)) ⊎ ((c ≡ true) × (k ≡ cond b 1 0) × (a ≡ y))
at_place true c x y zero a h = inl (refl, refl, cc)
at_place true true x y (suc zero) a h = inr (refl, refl, cc)
at_place true true x y (suc (suc k)) a h = cc
at_place true false x y (suc k) a h = cc
at_place false true x y zero a h = inr (refl, refl, cc)
at_place false true x y (suc k) a h = cc
at_place false false x y k a h = cc

second : (b : Bool) (x y : ℕ) → slice_get (cond b (x ∷ []) [] ++ (y ∷ [])) (cond b 1 0) ≡ Some y
second true x y = refl
second false x y = refl

-- an arc at a place of node u is the one to the next cell or the one to the cell before
at_places_of : (n u k a : ℕ) → slice_get (arcs_among n u) k ≡ Some a → ((u + 1 < n) × (k ≡ 0) × (a ≡ 2 * u)) ⊎ ((0 < u) × (k ≡ cond (nat_lt (u + 1) n) 1 0) × (a ≡ 2 * (u - 1) + 1))
at_places_of n u k a is =
    ⊎_elim
    (λ p. inl (ltb-true (u + 1) n p.0, p.1, p.2))
    (λ p. inr (ltb-true 0 u p.0, p.1, p.2))
    (at_place (nat_lt (u + 1) n) (nat_lt 0 u) (2 * u) (2 * (u - 1) + 1) k a is)

graph_lawful : (n : ℕ) → n ≤ 4096 → LawfulGraph (row_graph n)
graph_lawful n few = record {
  few_nodes = few;
  small_code = each_arc n (λ a e. a < 32768) (λ i h. omega arith) (λ i h. omega arith);
  tail_there = each_arc n (λ a e. e.tail < n) (λ i h. omega arith) (λ i h. omega arith);
  other = each_arc n (λ a e. e.reverse ≢ a) (λ i h same. omega arith) (λ i h same. omega arith);
  back = each_arc n (λ a e. ends_among n e.reverse ≡ Some (reversed a e)) (left_there n) (right_there n);
  own = λ u k a h is.
      ⊎_elim
      (λ p. (joins Right u, rw p.2 (right_there n u p.0), refl))
      (λ p. let more : 0 < u = p.0 in (joins Left (u - 1), rw p.2 (left_there n (u - 1) (omega arith)), omega arith))
      (at_places_of n u k a is);
  placed = each_arc n (λ a e. (k : ℕ) × (slice_get (arcs_among n e.tail) k ≡ Some a))
      (λ i h. (0, rw (lt-ltb (i + 1) n h)))
      (λ i h. (cond (nat_lt (i + 1 + 1) n) 1 0, rw (lt-ltb 0 (i + 1) (omega arith)) (second (nat_lt (i + 1 + 1) n) (2 * (i + 1)) (2 * (i + 1 - 1) + 1) ∙ ap Some (omega arith))));
  once = λ u h j k a is_j is_k. omega (arith, at_places_of n u j a is_j, at_places_of n u k a is_k);
}

pair : (cells : List Cell) (i : ℕ) → Capped (cell_at cells i) → (of_cells cells).residual (2 * i) + (of_cells cells).residual (2 * i + 1) ≤ 2 ^ 40
pair cells i capped = rw (owner_right i, way_right i, owner_left i, way_left i) capped.2

pub lawful : (cells : List Cell) → AllCapped cells → Lawful (of_cells cells)
lawful cells capped =
    let v = of_cells cells in
    record {
      graph = graph_lawful (count cells) (omega arith);
      small = λ t u h. elim t as (λ t. v.terminal t u ≤ 2 ^ 40) [ Source ↦ (capped u (omega arith)).0 | Sink ↦ (capped u (omega arith)).1 ];
      small_pair = each_arc (count cells) (λ a e. v.residual a + v.residual e.reverse ≤ 2 ^ 40)
          (λ i h. pair cells i (capped i (omega arith)))
          (λ i h. omega (arith, pair cells i (capped i (omega arith))));
    }
