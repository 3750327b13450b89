-- The network of a tile within its bounds keeps the laws, and its codes are few.
use Rattle.std.proofs.Common.{◌≡◌, ℕ, zero, suc, ◌+◌, ◌-◌, ◌*◌, ◌^◌, ◌≤◌, Bool, true, false, cond, ◌&&◌, leb, eqb, List, [], ◌∷◌, length, get_or, refl, arith}
use Rattle.std.proofs.lemmas.Bool.{and_parts, leb-true}
use Rattle.std.specs.List.{AllByRecursion, list_all}
use Rattle.network.specs.Nets.{Lawful}
use Rattle.network.specs.declared.terminal.Terminal.TheVariants.{Source, Sink}
use Rattle.tile.specs.declared.direction.Direction.{Direction}
use Rattle.tile.specs.declared.direction.Direction.TheVariants.{Right, Left, Below, Above}
use Rattle.tile.specs.Grids.{owner, direction_of, joined}
use Rattle.tile.specs.Laws.{graph_lawful}
use Rattle.tile.specs.Tiles.{paid_to, penalty_to, tile_network}
use Rattle.tile.proofs.Energies.{no_arc}
use Rattle.smallcases.proofs.Codes.{FewCodes}
use Rattle.smallcases.proofs.Tests.{all_by_test}

abbrev is_byte : ℕ → Bool
is_byte b = leb b 255

-- what stands at a place, and what is read past the end, is no more than a byte
byte_at : (bytes : List ℕ) (k : ℕ) → AllByRecursion (λ b. b ≤ 255) bytes → get_or bytes k 0 ≤ 255
byte_at [] k all = omega arith
byte_at (b ∷ bytes) zero all = all.0
byte_at (b ∷ bytes) (suc k) all = byte_at bytes k all.1

-- so is a penalty
penalty_small : (w h : ℕ) (bytes : List ℕ) (a : ℕ) → AllByRecursion (λ b. b ≤ 255) bytes → (tile_network w h bytes).residual a ≤ 255
penalty_small w h bytes a all = counted (joined w (w * h) (direction_of a) (owner a)) (direction_of a)
  where
    counted : (b : Bool) (d : Direction) → cond b (penalty_to w d bytes (owner a)) 0 ≤ 255
    counted false d = omega arith
    counted true Right = byte_at bytes (4 * owner a + 2) all
    counted true Left = byte_at bytes (4 * (owner a - 1) + 2) all
    counted true Below = byte_at bytes (4 * owner a + 3) all
    counted true Above = byte_at bytes (4 * (owner a - w) + 3) all

tile_lawful : (w h : ℕ) (bytes : List ℕ) → w * h ≤ 4096 → AllByRecursion (λ b. b ≤ 255) bytes → Lawful (tile_network w h bytes)
tile_lawful w h bytes few all = record {
  graph = graph_lawful w (w * h) few;
  small = λ t u there. elim t as (λ t. paid_to t bytes u ≤ 2 ^ 40) [ Source ↦ omega (arith, byte_at bytes (4 * u + 1) all) | Sink ↦ omega (arith, byte_at bytes (4 * u) all) ];
  small_pair = λ a e is. omega (arith, penalty_small w h bytes a all, penalty_small w h bytes e.reverse all);
}

-- whether there are not too many pixels, with four bytes each
abbrev pub sound_tile : ℕ → ℕ → List ℕ → Bool
sound_tile w h bytes = leb (w * h) 4096 && (eqb (length bytes) (4 * (w * h)) && list_all is_byte bytes)

pub tile_codes : (w h : ℕ) (bytes : List ℕ) → sound_tile w h bytes ≡ true → FewCodes (tile_network w h bytes) (4 * (w * h))
tile_codes w h bytes passes =
    let (few, rest) = and_parts (leb (w * h) 4096) (eqb (length bytes) (4 * (w * h)) && list_all is_byte bytes) passes in
    let (long, all) = and_parts (eqb (length bytes) (4 * (w * h))) (list_all is_byte bytes) rest in
    let room = leb-true (w * h) 4096 few in
    record {
      lawful = tile_lawful w h bytes room (all_by_test is_byte (λ b. b ≤ 255) (λ b. leb-true b 255) bytes all);
      few = omega arith;
      none = λ a past. rw (no_arc w (w * h) (direction_of a) (owner a) (omega arith)) refl;
    }
