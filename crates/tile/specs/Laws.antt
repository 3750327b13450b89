-- A tile keeps the laws of a network. Assumes nothing.
use Rattle.std.specs.Prelude.{◌≡◌, ℕ, zero, suc, ◌+◌, ◌-◌, ◌^◌, ◌<◌, ◌≤◌, Bool, true, false, cond, ◌⊎◌, List, [], ◌∷◌, filter, length, None, Some, Option, option_map, refl}
use Rattle.std.proofs.Common.{ap, sym, ◌∙◌, subst, subst₂, inl, inr, ⊎_elim, arith}
use Rattle.std.proofs.lemmas.Bool.{cases_Bool}
use Rattle.std.proofs.lemmas.Bool.Decides.{nat_tests}
use Rattle.std.proofs.lemmas.Option.{cond_some, slice_get-map}
use Rattle.std.specs.List.{slice_get}
use Rattle.network.specs.declared.terminal.Terminal.TheVariants.{Source, Sink}
use Rattle.network.specs.Nets.{Ends, LawfulGraph, Lawful, reversed}
use Rattle.tile.specs.declared.direction.Direction.{Direction}
use Rattle.tile.specs.declared.direction.Direction.TheVariants.{Right, Left, Below, Above}
use Rattle.tile.specs.declared.pixel.Pixel.{Pixel}
use Rattle.tile.specs.Grids.{directions, number, opposite, neighbour, LeadsBack, joined, arc_of, owner, direction_of, joins, arcs_of, grid}
use Rattle.tile.specs.Tables.{of_pixels, Told, SmallPairs}

-- a code tells a pixel and a direction, and these tell the code
pub owner_of_arc : (d : Direction) (v : ℕ) → owner (arc_of d v) ≡ v
owner_of_arc Right v = omega arith
owner_of_arc Left v = omega arith
owner_of_arc Below v = omega arith
owner_of_arc Above v = omega arith

pub direction_of_arc : (d : Direction) (v : ℕ) → direction_of (arc_of d v) ≡ d
direction_of_arc Right v = grind (arith, nat_tests)
direction_of_arc Left v = grind (arith, nat_tests)
direction_of_arc Below v = grind (arith, nat_tests)
direction_of_arc Above v = grind (arith, nat_tests)

pub number_again : (n : ℕ) → n < 4 → number (direction_of n) ≡ n
number_again n small = grind (arith, nat_tests)

pub direction_again : (d : Direction) → direction_of (number d) ≡ d
direction_again Right = refl
direction_again Left = refl
direction_again Below = refl
direction_again Above = refl

pub arc_again : (a : ℕ) → arc_of (direction_of a) (owner a) ≡ a
arc_again a = grind (arith, nat_tests)

pub opposite_again : (d : Direction) → opposite (opposite d) ≡ d
opposite_again Right = refl
opposite_again Left = refl
opposite_again Below = refl
opposite_again Above = refl

-- a pixel and its neighbour: both are on the tile, and the way leads back
pub record Joined (w n : ℕ) (d : Direction) (v : ℕ) : Type 0 where
  pub pixel : v < n
  pub other : neighbour w d v < n
  pub back : LeadsBack w d v
  pub again : joined w n (opposite d) (neighbour w d v) ≡ true

pub both_joined : (w n : ℕ) (d : Direction) (v : ℕ) → joined w n d v ≡ true → Joined w n d v
both_joined w n Right v there = record { pixel = grind (arith, nat_tests); other = grind (arith, nat_tests); back = omega arith; again = there }
both_joined w n Left v there =
    let some : 0 < v = grind (arith, nat_tests) in
    let back : v - 1 + 1 ≡ v = omega arith in
    record { pixel = grind (arith, nat_tests); other = grind (arith, nat_tests); back = back; again = rw back there }
both_joined w n Below v there = record { pixel = grind (arith, nat_tests); other = grind (arith, nat_tests); back = omega arith; again = grind (arith, nat_tests) }
both_joined w n Above v there =
    let above : w ≤ v = grind (arith, nat_tests) in
    let back : v - w + w ≡ v = omega arith in
    record { pixel = grind (arith, nat_tests); other = grind (arith, nat_tests); back = back; again = rw back (grind (arith, nat_tests)) }

-- the arc of a pixel to its neighbour
pub arc_there : (w n : ℕ) (d : Direction) (v : ℕ) → joined w n d v ≡ true → (grid w n).ends (arc_of d v) ≡ Some (joins w d v)
arc_there w n d v there = rw (owner_of_arc d v, direction_of_arc d v, there) refl

-- what holds of it for each pixel and direction holds of each arc
pub each_arc : (w n : ℕ) (P : ℕ → Ends → Type 0) → ((d : Direction) (v : ℕ) → joined w n d v ≡ true → P (arc_of d v) (joins w d v)) → (a : ℕ) (e : Ends) → (grid w n).ends a ≡ Some e → P a e
each_arc w n P holds a e is =
    let (there, ends) = cond_some (joined w n (direction_of a) (owner a)) (joins w (direction_of a) (owner a)) e is in
    subst₂ P (arc_again a) ends (holds (direction_of a) (owner a) there)

-- the neighbour's arc back has the ends exchanged
reverse_there : (w n : ℕ) (d : Direction) (v : ℕ) → joined w n d v ≡ true → (grid w n).ends (arc_of (opposite d) (neighbour w d v)) ≡ Some (reversed (arc_of d v) (joins w d v))
reverse_there w n d v there =
    let both = both_joined w n d v there in
    rw (arc_there w n (opposite d) (neighbour w d v) both.again, opposite_again d, both.back) refl

other_arc : (d : Direction) (u v : ℕ) → arc_of (opposite d) u ≡ arc_of d v → ⊥
other_arc Right u v same = omega arith
other_arc Left u v same = omega arith
other_arc Below u v same = omega arith
other_arc Above u v same = omega arith

-- what stands at a place of the directions that pass a test passes it
pub at_place : (p : Direction → Bool) (xs : List Direction) (k : ℕ) (d : Direction) → slice_get (filter p xs) k ≡ Some d → p d ≡ true
at_place p [] k d is = absurd cc
at_place p (x ∷ xs) k d is = ⊎_elim
    (λ (yes : p x ≡ true). first k (at_place p xs) yes (rw yes at is))
    (λ (no : p x ≡ false). at_place p xs k d (rw no at is))
    (cases_Bool (p x))
  where
    first : (j : ℕ) → ((i : ℕ) (e : Direction) → slice_get (filter p xs) i ≡ Some e → p e ≡ true) → p x ≡ true → slice_get (x ∷ filter p xs) j ≡ Some d → p d ≡ true
    first zero more passes at = let same : x ≡ d = cc in subst (λ e. p e ≡ true) same passes
    first (suc j) more passes at = more j d at

-- x stands in the list xs
abbrev Stands : {A : Type 0} → List A → A → Type 0
Stands xs x = (k : ℕ) × (slice_get xs k ≡ Some x)

stands_first : (p : Direction → Bool) (xs : List Direction) (d : Direction) → p d ≡ true → Stands (filter p (d ∷ xs)) d
stands_first p xs d passes = rw passes (0, refl)

stands_later : (p : Direction → Bool) (x : Direction) (xs : List Direction) (d : Direction) → Stands (filter p xs) d → Stands (filter p (x ∷ xs)) d
stands_later p x xs d (k, is) = ⊎_elim
    (λ (yes : p x ≡ true). rw yes (suc k, is))
    (λ (no : p x ≡ false). rw no (k, is))
    (cases_Bool (p x))

-- the directions after each
abbrev after : Direction → List Direction
after Right = Left ∷ Below ∷ Above ∷ []
after Left = Below ∷ Above ∷ []
after Below = Above ∷ []
after Above = []

stands : (p : Direction → Bool) (d : Direction) → p d ≡ true → Stands (filter p directions) d
stands p Right passes = stands_first p (after Right) Right passes
stands p Left passes = stands_later p Right (after Right) Left (stands_first p (after Left) Left passes)
stands p Below passes = stands_later p Right (after Right) Below (stands_later p Left (after Left) Below (stands_first p (after Below) Below passes))
stands p Above passes = stands_later p Right (after Right) Above (stands_later p Left (after Left) Above (stands_later p Below (after Below) Above (stands_first p (after Above) Above passes)))

-- how many of the directions before d pass the test
abbrev place_of : (Direction → Bool) → Direction → ℕ
place_of p Right = 0
place_of p Left = cond (p Right) 1 0
place_of p Below = cond (p Right) 1 0 + cond (p Left) 1 0
place_of p Above = cond (p Right) 1 0 + (cond (p Left) 1 0 + cond (p Below) 1 0)

-- what stands at a place is the first or stands later
first_or_later : (p : Direction → Bool) (x : Direction) (xs : List Direction) (k : ℕ) (d : Direction) → slice_get (filter p (x ∷ xs)) k ≡ Some d → ((x ≡ d) × (k ≡ 0)) ⊎ ((j : ℕ) × (slice_get (filter p xs) j ≡ Some d) × (k ≡ cond (p x) 1 0 + j))
first_or_later p x xs k d is = ⊎_elim
    (λ (yes : p x ≡ true). rw yes (first k (rw yes at is)))
    (λ (no : p x ≡ false). inr (k, (rw no at is), rw no (omega arith)))
    (cases_Bool (p x))
  where
    first : (j : ℕ) → slice_get (x ∷ filter p xs) j ≡ Some d → ((x ≡ d) × (j ≡ 0)) ⊎ ((i : ℕ) × (slice_get (filter p xs) i ≡ Some d) × (j ≡ 1 + i))
    first zero at = inl (cc, refl)
    first (suc j) at = inr (j, at, omega arith)

-- so it stands at one place only
one_place : (p : Direction → Bool) (k : ℕ) (d : Direction) → slice_get (filter p directions) k ≡ Some d → k ≡ place_of p d
one_place p k d is =
    ⊎_elim
    (λ h. subst (λ d. k ≡ place_of p d) h.0 h.1)
    (λ h. ⊎_elim
    (λ g. subst (λ d. k ≡ place_of p d) g.0 (omega (arith, g.1, h.2)))
    (λ g. ⊎_elim
    (λ f. subst (λ d. k ≡ place_of p d) f.0 (omega (arith, f.1, g.2, h.2)))
    (λ f. ⊎_elim
    (λ e. subst (λ d. k ≡ place_of p d) e.0 (omega (arith, e.1, f.2, g.2, h.2)))
    (λ e. none e.0 e.1)
    (first_or_later p Above (after Above) f.0 d f.1))
    (first_or_later p Below (after Below) g.0 d g.1))
    (first_or_later p Left (after Left) h.0 d h.1))
    (first_or_later p Right (after Right) k d is)
  where
    none : (j : ℕ) → slice_get (filter p []) j ≡ Some d → k ≡ place_of p d
    none j at = absurd cc

-- an arc at a place of pixel v is the arc of the direction at that place
told : (v a : ℕ) (o : Option Direction) → option_map (λ d. arc_of d v) o ≡ Some a → (o ≡ Some (direction_of a)) × (owner a ≡ v)
told v a None is = absurd cc
told v a (Some d) is =
    let same : arc_of d v ≡ a = cc in
    (subst (λ a. Some d ≡ Some (direction_of a)) same (ap Some (sym (direction_of_arc d v))), subst (λ a. owner a ≡ v) same (owner_of_arc d v))

at_place_of : (w n v k a : ℕ) → slice_get (arcs_of w n v) k ≡ Some a → (slice_get (filter (λ d. joined w n d v) directions) k ≡ Some (direction_of a)) × (owner a ≡ v)
at_place_of w n v k a is = told v a _ (sym (slice_get-map (λ d. arc_of d v) (filter (λ d. joined w n d v) directions) k) ∙ is)

pub graph_lawful : (w n : ℕ) → n ≤ 4096 → LawfulGraph (grid w n)
graph_lawful w n few = record {
  few_nodes = few;
  small_code = each_arc w n (λ a e. a < 32768) (λ d v there. small d v (both_joined w n d v there).pixel);
  tail_there = each_arc w n (λ a e. e.tail < n) (λ d v there. (both_joined w n d v there).pixel);
  other = each_arc w n (λ a e. e.reverse ≡ a → ⊥) (λ d v there. other_arc d (neighbour w d v) v);
  back = each_arc w n (λ a e. (grid w n).ends e.reverse ≡ Some (reversed a e)) (reverse_there w n);
  own = λ v k a there is.
      let (at, from) = at_place_of w n v k a is in
      let is_joined : joined w n (direction_of a) v ≡ true = at_place (λ d. joined w n d v) directions k (direction_of a) at in
      (joins w (direction_of a) v, rw (from, is_joined) refl, refl);
  placed = each_arc w n (λ a e. Stands (arcs_of w n e.tail) a) placed;
  once = λ v there j k a at_j at_k.
      let p : Direction → Bool = λ d. joined w n d v in
      one_place p j (direction_of a) (at_place_of w n v j a at_j).0 ∙ sym (one_place p k (direction_of a) (at_place_of w n v k a at_k).0);
}
  where
    small : (d : Direction) (v : ℕ) → v < n → arc_of d v < 32768
    small Right v there = omega arith
    small Left v there = omega arith
    small Below v there = omega arith
    small Above v there = omega arith

    placed : (d : Direction) (v : ℕ) → joined w n d v ≡ true → Stands (arcs_of w n v) (arc_of d v)
    placed d v there =
        let (k, is) = stands (λ d. joined w n d v) d there in
        (k, slice_get-map (λ d. arc_of d v) (filter (λ d. joined w n d v) directions) k ∙ ap (option_map (λ d. arc_of d v)) is)

pub lawful : (w : ℕ) (pixels : List Pixel) → length pixels ≤ 4096 → Told w pixels → SmallPairs (of_pixels w pixels) → Lawful (of_pixels w pixels)
lawful w pixels few told pairs =
    let v = of_pixels w pixels in
    record {
      graph = graph_lawful w (length pixels) few;
      small = λ t u there. elim t as (λ t. v.terminal t u ≤ 2 ^ 40) [ Source ↦ omega (arith, told.small u there) | Sink ↦ omega (arith, told.small u there) ];
      small_pair = λ a e is. omega (arith, pairs a e is);
    }
