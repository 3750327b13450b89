-- What a tile is, that it keeps the laws of a network, and what else it keeps. Assumes nothing.
use Rattle.std.specs.Prelude.{◌*◌, ◌≤◌, List, take, refl}
use Rattle.std.proofs.Common.{◌∙◌, arith}
use Rattle.std.proofs.lemmas.Nat.{mul-le}
use Rattle.std.proofs.lemmas.List.{length-take-le}
use Rattle.network.specs.Keeping.{Keeping}
use Rattle.network.specs.Nets.{Net, Lawful}
use Rattle.tile.specs.declared.tile.Tile.{Tile}
use Rattle.tile.specs.declared.pixel.Pixel.{Pixel}
use Rattle.tile.specs.Calls.{State, StillLaid}
use Rattle.tile.specs.Tables.{of_pixels}
use Rattle.tile.specs.Laws.{lawful}

-- the pixels that are laid
abbrev pub pixels_of : Tile → List Pixel
pixels_of x = take (x.width * x.height) x.table.now

abbrev pub tile_value : Tile → Net
tile_value x = of_pixels x.width (pixels_of x)

pub tile_lawful : (x : Tile) → Lawful (tile_value x)
tile_lawful x =
    let n = x.width * x.height in
    let few : n ≤ 64 * 64 = mul-le x.width x.height 64 64 x.narrow x.low in
    lawful x.width (pixels_of x) (omega (arith, length-take-le n x.table.now x.room)) x.told x.pairs

abbrev pub tile_of : Tile → State
tile_of x = record { table = x.table; width = x.width; height = x.height; net = tile_value x }

abbrev pub tile_keeps : Tile → Tile → Type 0
tile_keeps x y = StillLaid (tile_of x) (tile_of y)

pub tile_keeping : Keeping tile_keeps
tile_keeping = record {
  same = λ x. record { width = refl; height = refl; spared = record { same_table = refl; as_long = refl; untouched = refl } };
  then = λ x y z first second. record {
    width = second.width ∙ first.width;
    height = second.height ∙ first.height;
    spared = record {
      same_table = second.spared.same_table ∙ first.spared.same_table;
      as_long = second.spared.as_long ∙ first.spared.as_long;
      untouched = (rw (first.width, first.height) at second.spared.untouched) ∙ first.spared.untouched;
    };
  };
}
