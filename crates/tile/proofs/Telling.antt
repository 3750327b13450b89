-- What a pixel's record tells of its arcs.
use Rattle.std.proofs.Common.{◌≡◌, ℕ, zero, suc, ◌+◌, ◌*◌, ◌<◌, ◌≤◌, true, false, List, length, take, filter, None, Some, Option, sym, refl, ap, ◌∙◌, ⊎_elim, arith}
use Rattle.std.proofs.lemmas.Bool.{cases_Bool}
use Rattle.std.proofs.lemmas.List.{get_or-take}
use Rattle.std.proofs.lemmas.Option.{slice_get-map}
use Rattle.std.specs.Prelude.{option_map, Ok, Err, nat_lt, slice_index, bit_xor}
use Rattle.std.specs.List.{slice_get}
use Rattle.network.specs.declared.arc.Arc.{Arc}
use Rattle.network.specs.declared.refusal.NetworkRefusal.TheVariants.{NoNode}
use Rattle.network.specs.Answers.{at_node, arc_with, whole, arc_answer}
use Rattle.tile.specs.declared.direction.Direction.{Direction}
use Rattle.tile.specs.declared.direction.Direction.TheVariants.{Right, Left, Below, Above}
use Rattle.tile.specs.declared.pixel.Pixel.{Pixel}
use Rattle.tile.specs.Grids.{directions, number, opposite, neighbour, joined, arc_of, direction_of, directions_of, joins, arcs_of}
use Rattle.tile.specs.Laws.{owner_of_arc, direction_of_arc, both_joined, at_place, arc_there}
use Rattle.tile.specs.Pixels.{has, residual_of}
use Rattle.tile.specs.Tables.{no_pixel, pixel_at, of_pixels, Told}

-- the neighbours that its record tells are those on the tile
pub directions_told : (w : ℕ) (pixels : List Pixel) (v : ℕ) → Told w pixels → v < length pixels → filter (has (pixel_at pixels v).neighbours) directions ≡ directions_of w (length pixels) v
directions_told w pixels v told there = let same = told.known v there in rw (same Right, same Left, same Below, same Above) refl

-- an accepted question about a node tells that it is there, and what was asked
accepted : {A : Type 0} (w : ℕ) (pixels : List Pixel) (v : ℕ) (o x : A) → Ok o ≡ at_node (of_pixels w pixels) v x → (nat_lt v (length pixels) ≡ true) × (o ≡ x)
accepted w pixels v o x is = ⊎_elim
    (λ (there : nat_lt v (length pixels) ≡ true). let same : Ok o ≡ Ok x = rw there at is in (there, cc))
    (λ (none : nat_lt v (length pixels) ≡ false). let other : Ok o ≡ Err NoNode = rw none at is in absurd cc)
    (cases_Bool (nat_lt v (length pixels)))

-- what stands at place k of the directions of pixel v, as the tile answers it
abbrev Answers : ℕ → List Pixel → ℕ → ℕ → Option Direction → Type 0
Answers w pixels v k o = Ok o ≡ at_node (of_pixels w pixels) v (slice_get (directions_of w (length pixels) v) k)

-- a direction there leads to a neighbour
pub leads : (w : ℕ) (pixels : List Pixel) (v k : ℕ) (d : Direction) → Answers w pixels v k (Some d) → joined w (length pixels) d v ≡ true
leads w pixels v k d is = at_place (λ d. joined w (length pixels) d v) directions k d (sym (accepted w pixels v (Some d) _ is).1)

-- and the arc at that place leads there
arc_told : (w : ℕ) (pixels : List Pixel) (v k : ℕ) (o : Option Direction) → Answers w pixels v k o → slice_get (arcs_of w (length pixels) v) k ≡ option_map (λ d. arc_of d v) o
arc_told w pixels v k o is = slice_get-map (λ d. arc_of d v) (directions_of w (length pixels) v) k ∙ ap (option_map (λ d. arc_of d v)) (sym (accepted w pixels v o _ is).1)

pub there_answer : {A : Type 0} (w : ℕ) (pixels : List Pixel) (v : ℕ) (x : A) → nat_lt v (length pixels) ≡ true → at_node (of_pixels w pixels) v x ≡ Ok x
there_answer w pixels v x there = rw there refl

-- the arc of pixel v to its neighbour, told whole
abbrev pub arc_to : ℕ → List Pixel → ℕ → Direction → Arc
arc_to w pixels v d = arc_with (of_pixels w pixels) (arc_of d v) (joins w d v)

pub whole_told : (w : ℕ) (pixels : List Pixel) (v k : ℕ) (o : Option Direction) → Answers w pixels v k o → arc_answer (of_pixels w pixels) v k ≡ Ok (option_map (arc_to w pixels v) o)
whole_told w pixels v k o is =
    let t = of_pixels w pixels in
    there_answer w pixels v (whole t (slice_get (arcs_of w (length pixels) v) k)) (accepted w pixels v o _ is).0
    ∙ ap (λ a. Ok (whole t a)) (arc_told w pixels v k o is)
    ∙ ap Ok (each o is)
  where
    each : (o : Option Direction) → Answers w pixels v k o → whole (of_pixels w pixels) (option_map (λ d. arc_of d v) o) ≡ option_map (arc_to w pixels v) o
    each None at = refl
    each (Some d) at = rw (arc_there w (length pixels) d v (leads w pixels v k d at)) refl

-- it is read from the two pixels' records in a table, of which the first n are laid
pub arc_read : (w : ℕ) (table : List Pixel) (n : ℕ) (d : Direction) (v : ℕ) → n ≤ length table → joined w n d v ≡ true → arc_to w (take n table) v d ≡ (let u = neighbour w d v in record { code = arc_of d v; head = u; reverse = arc_of (opposite d) u; residual = residual_of (pixel_at table v) d; back = residual_of (pixel_at table u) (opposite d) })
arc_read w table n d v room there =
    let both = both_joined w n d v there in
    let u = neighbour w d v in
    rw (owner_of_arc d v, direction_of_arc d v, owner_of_arc (opposite d) u, direction_of_arc (opposite d) u, get_or-take n table v no_pixel both.pixel, get_or-take n table u no_pixel both.other) refl

-- the number of the direction back
pub backwards : (k : ℕ) → k < 4 → bit_xor k 1 ≡ number (opposite (direction_of k))
backwards zero small = refl
backwards (suc zero) small = refl
backwards (suc (suc zero)) small = refl
backwards (suc (suc (suc zero))) small = refl
backwards (suc (suc (suc (suc k)))) small = absurd (omega arith)

-- the same by the number of a direction
pub arc_numbered : (w : ℕ) (table : List Pixel) (n k v : ℕ) → n ≤ length table → k < 4 → joined w n (direction_of k) v ≡ true → arc_with (of_pixels w (take n table)) (4 * v + k) (joins w (direction_of k) v) ≡ (let u = neighbour w (direction_of k) v in record { code = 4 * v + k; head = u; reverse = 4 * u + bit_xor k 1; residual = slice_index (pixel_at table v).residuals k; back = slice_index (pixel_at table u).residuals (bit_xor k 1) })
arc_numbered w table n zero v room small there = arc_read w table n Right v room there
arc_numbered w table n (suc zero) v room small there = arc_read w table n Left v room there
arc_numbered w table n (suc (suc zero)) v room small there = arc_read w table n Below v room there
arc_numbered w table n (suc (suc (suc zero))) v room small there = arc_read w table n Above v room there
arc_numbered w table n (suc (suc (suc (suc k)))) v room small there = absurd (omega arith)
