-- Changes of one pixel's record, and what they change of the network that the pixels mean.
use Rattle.std.proofs.Common.{◌≡◌, Some, ℕ, ◌+◌, ◌-◌, ◌*◌, ◌<◌, ◌≤◌, true, cond, eqb, List, length, set, take, sym, refl, ap, ◌∙◌, arith, rules, length-set}
use Rattle.std.proofs.lemmas.Bool.Decides.{nat_tests}
use Rattle.std.proofs.lemmas.List.{get_or-set_same, get_or-set_other, get_or-take, length-take-le}
use Rattle.std.proofs.Math.Seq.{take-set-lt}
use Rattle.network.specs.declared.terminal.Terminal.{Terminal}
use Rattle.network.specs.Nets.{Lawful, with_terminal, with_residual, reverse_of, shifted}
use Rattle.network.specs.Answers.{within, shift_answer}
use Rattle.network.proofs.Laws.{pair_kept}
use Rattle.tile.specs.declared.direction.Direction.{Direction}
use Rattle.tile.specs.declared.direction.Direction.TheVariants.{Right, Left, Below, Above}
use Rattle.tile.specs.declared.pixel.Pixel.{Pixel}
use Rattle.tile.specs.Grids.{number, opposite, neighbour, joined, arc_of, owner, direction_of, joins, grid}
use Rattle.tile.specs.Laws.{owner_of_arc, direction_of_arc, arc_again, both_joined}
use Rattle.tile.specs.Pixels.{Small, terminal_of, put_terminal, residual_of, put_residual}
use Rattle.tile.specs.Tables.{no_pixel, pixel_at, of_pixels, Told, SmallPairs}

pixel_at_set : (pixels : List Pixel) (i : ℕ) (x : Pixel) (k : ℕ) → i < length pixels → pixel_at (set pixels i x) k ≡ cond (eqb k i) x (pixel_at pixels k)
pixel_at_set pixels i x k there = grind (arith, nat_tests, get_or-set_same, get_or-set_other)

-- another record of a pixel that tells the same neighbours
pub told_set : (w : ℕ) (pixels : List Pixel) (i : ℕ) (x : Pixel) → i < length pixels → Told w pixels → Small x → x.neighbours ≡ (pixel_at pixels i).neighbours → Told w (set pixels i x)
told_set w pixels i x there told small same =
    let long = length-set pixels i x in
    record {
      small = λ k inside. rw (pixel_at_set pixels i x k there) (grind (arith, nat_tests, told.small k));
      known = λ k inside d. rw (pixel_at_set pixels i x k there, long) (grind (arith, nat_tests, told.known k (omega arith) d));
    }

-- a pixel with another terminal residual makes a network with another terminal residual of that node
pub value_terminal : (w : ℕ) (pixels : List Pixel) (t : Terminal) (u x : ℕ) → u < length pixels → of_pixels w (set pixels u (put_terminal (pixel_at pixels u) t x)) ≡ with_terminal (of_pixels w pixels) t u x
value_terminal w pixels t u x there = search rules

pub number_small : (d : Direction) → number d < 4
number_small Right = omega arith
number_small Left = omega arith
number_small Below = omega arith
number_small Above = omega arith

-- a pixel with another residual in a direction makes a network with another residual of that arc
residual_at_set : (pixels : List Pixel) (d : Direction) (v x b : ℕ) → v < length pixels → length (pixel_at pixels v).residuals ≡ 4 → residual_of (pixel_at (set pixels v (put_residual (pixel_at pixels v) d x)) (owner b)) (direction_of b) ≡ cond (eqb b (arc_of d v)) x (residual_of (pixel_at pixels (owner b)) (direction_of b))
residual_at_set pixels d v x b there long =
    let at = pixel_at_set pixels v (put_residual (pixel_at pixels v) d x) (owner b) there in
    let rs = (pixel_at pixels v).residuals in
    let m = number (direction_of b) in
    let is : 4 * owner b + m ≡ b = arc_again b in
    let same = get_or-set_same rs (number d) x 0 in
    let other = get_or-set_other rs (number d) m x 0 in
    rw at (grind (arith, nat_tests, number_small d, number_small (direction_of b)))

pub value_residual : (w : ℕ) (pixels : List Pixel) (d : Direction) (v x : ℕ) → v < length pixels → length (pixel_at pixels v).residuals ≡ 4 → of_pixels w (set pixels v (put_residual (pixel_at pixels v) d x)) ≡ with_residual (of_pixels w pixels) (arc_of d v) x
value_residual w pixels d v x there long =
    let new = set pixels v (put_residual (pixel_at pixels v) d x) in
    let terminals : (t : Terminal) (k : ℕ) → terminal_of (pixel_at new k) t ≡ (of_pixels w pixels).terminal t k = λ t k. let at = pixel_at_set pixels v (put_residual (pixel_at pixels v) d x) k there in grind (arith, nat_tests) in
    λ i. record { graph = grid w (length-set pixels v (put_residual (pixel_at pixels v) d x) i); terminal = λ t k. terminals t k i; residual = λ b. residual_at_set pixels d v x b there long i }

-- the same of a table, of whose records the first n are pixels
pub table_told : (w : ℕ) (table : List Pixel) (n i : ℕ) (x : Pixel) → n ≤ length table → i < n → Told w (take n table) → Small x → x.neighbours ≡ (pixel_at (take n table) i).neighbours → Told w (take n (set table i x))
table_told w table n i x room there told small same =
    let inside : i < length (take n table) = omega (arith, length-take-le n table room) in
    rw (take-set-lt n table i x there) (told_set w (take n table) i x inside told small same)

pub table_terminal : (w : ℕ) (table : List Pixel) (n : ℕ) (t : Terminal) (u x : ℕ) → n ≤ length table → u < n → of_pixels w (take n (set table u (put_terminal (pixel_at (take n table) u) t x))) ≡ with_terminal (of_pixels w (take n table)) t u x
table_terminal w table n t u x room there =
    let inside : u < length (take n table) = omega (arith, length-take-le n table room) in
    rw (take-set-lt n table u (put_terminal (pixel_at (take n table) u) t x) there) (value_terminal w (take n table) t u x inside)

-- a table with another residual written: the pixels tell the same, and their network has that residual
pub record Written (w n : ℕ) (table : List Pixel) (d : Direction) (v x : ℕ) (new : List Pixel) : Type 0 where
  pub room : n ≤ length new
  pub told : Told w (take n new)
  pub value : of_pixels w (take n new) ≡ with_residual (of_pixels w (take n table)) (arc_of d v) x

pub written : (w n : ℕ) (table : List Pixel) (d : Direction) (v x : ℕ) (y : Pixel) → n ≤ length table → v < n → Told w (take n table) → y ≡ put_residual (pixel_at table v) d x → Written w n table d v x (set table v y)
written w n table d v x y room there told is =
    let pixels = take n table in
    let long = length-take-le n table room in
    let inside : v < length pixels = omega arith in
    let old = pixel_at pixels v in
    let small : Small old = told.small v inside in
    let new : y ≡ put_residual old d x = rw (get_or-take n table v no_pixel there) is in
    let this : Small y = rw new (small.0, small.1, length-set old.residuals (number d) x ∙ small.2) in
    record {
      room = omega (arith, length-set table v y);
      told = table_told w table n v y room there told this (rw new refl);
      value = ap (of_pixels w) (take-set-lt n table v y there) ∙ ap (λ y. of_pixels w (set pixels v y)) new ∙ value_residual w pixels d v x inside small.2;
    }

-- the reverse of an arc that is there, as a code
reverse_code : (w n a : ℕ) → joined w n (direction_of a) (owner a) ≡ true → reverse_of (grid w n) a ≡ arc_of (opposite (direction_of a)) (neighbour w (direction_of a) (owner a))
reverse_code w n a there = rw (reverse_of, there) refl

-- what a shift along an arc that is there answers
pub table_answer : (w : ℕ) (table : List Pixel) (n a x : ℕ) → n ≤ length table → joined w n (direction_of a) (owner a) ≡ true → shift_answer (of_pixels w (take n table)) a x ≡ within x (residual_of (pixel_at table (owner a)) (direction_of a))
table_answer w table n a x room there = rw (length-take-le n table room, there, get_or-take n table (owner a) no_pixel (both_joined w n (direction_of a) (owner a) there).pixel) refl

-- the residuals of the arc and its reverse are those of the two pixels
pub table_pair : (w : ℕ) (table : List Pixel) (n a : ℕ) → n ≤ length table → joined w n (direction_of a) (owner a) ≡ true → SmallPairs (of_pixels w (take n table)) → residual_of (pixel_at table (owner a)) (direction_of a) + residual_of (pixel_at table (neighbour w (direction_of a) (owner a))) (opposite (direction_of a)) ≤ 510
table_pair w table n a room there pairs =
    let d = direction_of a in
    let v = owner a in
    let both = both_joined w n d v there in
    let is : (grid w (length (take n table))).ends a ≡ Some (joins w d v) = rw (length-take-le n table room, there) refl in
    let most = pairs a (joins w d v) is in
    rw (owner_of_arc (opposite d) (neighbour w d v), direction_of_arc (opposite d) (neighbour w d v), get_or-take n table v no_pixel both.pixel, get_or-take n table (neighbour w d v) no_pixel both.other) at most

-- both residuals of an arc written, which are an amount lowered and raised by it
pub table_shifted : (w : ℕ) (table : List Pixel) (n a x l m : ℕ) (y z : Pixel) → n ≤ length table → joined w n (direction_of a) (owner a) ≡ true → Told w (take n table)
    → l ≡ residual_of (pixel_at table (owner a)) (direction_of a) - x
    → m ≡ residual_of (pixel_at table (neighbour w (direction_of a) (owner a))) (opposite (direction_of a)) + x
    → y ≡ put_residual (pixel_at table (owner a)) (direction_of a) l
    → z ≡ put_residual (pixel_at (set table (owner a) y) (neighbour w (direction_of a) (owner a))) (opposite (direction_of a)) m
    → Told w (take n (set (set table (owner a) y) (neighbour w (direction_of a) (owner a)) z)) × (of_pixels w (take n (set (set table (owner a) y) (neighbour w (direction_of a) (owner a)) z)) ≡ shifted (of_pixels w (take n table)) a x)
table_shifted w table n a x l m y z room there told lower raise is_y is_z =
    let d = direction_of a in
    let v = owner a in
    let u = neighbour w d v in
    let both = both_joined w n d v there in
    let net = of_pixels w (take n table) in
    let long = length-take-le n table room in
    let first = written w n table d v l y room both.pixel told is_y in
    let second = written w n (set table v y) (opposite d) u m z first.room both.other first.told is_z in
    let reverse : reverse_of net.graph a ≡ arc_of (opposite d) u = reverse_code w (length (take n table)) a (rw long there) in
    let lowered : l ≡ net.residual a - x = rw (get_or-take n table v no_pixel both.pixel) lower in
    let raised : m ≡ net.residual (reverse_of net.graph a) + x = rw (reverse, owner_of_arc (opposite d) u, direction_of_arc (opposite d) u, get_or-take n table u no_pixel both.other) raise in (
      second.told,
      second.value
          ∙ ap (λ v. with_residual v (arc_of (opposite d) u) m) (first.value ∙ ap (λ b. with_residual net b l) (arc_again a) ∙ ap (with_residual net a) lowered)
          ∙ ap (λ b. with_residual (with_residual net a (net.residual a - x)) b m) (sym reverse)
          ∙ ap (with_residual (with_residual net a (net.residual a - x)) (reverse_of net.graph a)) raised,
    )

-- which leaves the pairs small
pub pairs_shifted : (w : ℕ) (table : List Pixel) (n a x : ℕ) → n ≤ length table → joined w n (direction_of a) (owner a) ≡ true → x ≤ residual_of (pixel_at table (owner a)) (direction_of a) → Lawful (of_pixels w (take n table)) → SmallPairs (of_pixels w (take n table)) → SmallPairs (shifted (of_pixels w (take n table)) a x)
pairs_shifted w table n a x room there less l pairs b e at_b =
    let net = of_pixels w (take n table) in
    let at_a : net.graph.ends a ≡ Some (joins w (direction_of a) (owner a)) = rw (length-take-le n table room, there) refl in
    let most : x ≤ net.residual a = rw (get_or-take n table (owner a) no_pixel (both_joined w n (direction_of a) (owner a) there).pixel) less in
    omega (arith, pair_kept net a b x (joins w (direction_of a) (owner a)) e l at_a at_b most, pairs b e at_b)
