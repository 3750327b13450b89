-- The graph of a tile: pixels numbered row by row, each joined to its neighbours. Pixel v has an arc in each direction in which there is a
-- neighbour, of the code 4v and the direction's number.
use Rattle.std.specs.Prelude.{◌≡◌, ℕ, ◌+◌, ◌-◌, ◌*◌, ◌/◌, ◌%◌, ◌^◌, Bool, cond, ◌&&◌, List, [], ◌∷◌, map, filter, Some, None, ◌==◌, nat_le, nat_lt}
use Rattle.network.specs.Nets.{Ends, Graph}
use Rattle.tile.specs.declared.direction.Direction.{Direction}
use Rattle.tile.specs.declared.direction.Direction.TheVariants.{Right, Left, Below, Above}

-- all directions, in the order of their numbers
abbrev pub directions : List Direction
directions = Right ∷ Left ∷ Below ∷ Above ∷ []

abbrev pub number : Direction → ℕ
number Right = 0
number Left = 1
number Below = 2
number Above = 3

abbrev pub opposite : Direction → Direction
opposite Right = Left
opposite Left = Right
opposite Below = Above
opposite Above = Below

-- the neighbour of pixel v there, in rows of w pixels
abbrev pub neighbour : ℕ → Direction → ℕ → ℕ
neighbour w Right v = v + 1
neighbour w Left v = v - 1
neighbour w Below v = v + w
neighbour w Above v = v - w

-- how far it lies from a pixel, by the numbers of the directions, in sums that wrap at 2^64
abbrev pub steps_of : ℕ → List ℕ
steps_of w = 1 ∷ (2 ^ 64 - 1) ∷ w ∷ (2 ^ 64 - w) % 2 ^ 64 ∷ []

-- the way back from the neighbour leads to the pixel; not so where a number would be below 0
abbrev pub LeadsBack : ℕ → Direction → ℕ → Type 0
LeadsBack w d v = neighbour w (opposite d) (neighbour w d v) ≡ v

-- whether pixel v stands in the row of the one before it
abbrev pub goes_on : ℕ → ℕ → Bool
goes_on w v = nat_lt 0 (v % w)

-- whether pixel v has a neighbour there, on a tile of n pixels
abbrev pub joined : ℕ → ℕ → Direction → ℕ → Bool
joined w n Right v = nat_lt (v + 1) n && goes_on w (v + 1)
joined w n Left v = nat_lt v n && goes_on w v
joined w n Below v = nat_lt (v + w) n
joined w n Above v = nat_lt v n && nat_le w v

-- the arc of pixel v to its neighbour there, and of an arc its pixel and its direction
abbrev pub arc_of : Direction → ℕ → ℕ
arc_of d v = 4 * v + number d

abbrev pub owner : ℕ → ℕ
owner a = a / 4

abbrev pub direction_of : ℕ → Direction
direction_of a = cond (a % 4 == 0) Right (cond (a % 4 == 1) Left (cond (a % 4 == 2) Below Above))

-- the ends of that arc, whose reverse is the neighbour's arc back
abbrev pub joins : ℕ → Direction → ℕ → Ends
joins w d v = record { tail = v; head = neighbour w d v; reverse = arc_of (opposite d) (neighbour w d v) }

-- where pixel v has neighbours: at its right, at its left, below and above
abbrev pub directions_of : ℕ → ℕ → ℕ → List Direction
directions_of w n v = filter (λ d. joined w n d v) directions

-- its arcs by place
abbrev pub arcs_of : ℕ → ℕ → ℕ → List ℕ
arcs_of w n v = map (λ d. arc_of d v) (directions_of w n v)

-- n pixels in rows of w
abbrev pub grid : ℕ → ℕ → Graph
grid w n = record {
  nodes = n;
  arcs = arcs_of w n;
  ends = λ a. cond (joined w n (direction_of a) (owner a)) (Some (joins w (direction_of a) (owner a))) None;
}
