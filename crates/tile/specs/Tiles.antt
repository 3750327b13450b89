-- What is laid on a tile: four bytes a pixel, in rows. What they make as a network, and the energy of a selection: selected means line.
use Rattle.std.specs.Prelude.{ℕ, ◌+◌, ◌-◌, ◌*◌, Bool, cond, not, ◌&&◌, List, slice_index}
use Rattle.network.specs.declared.terminal.Terminal.{Terminal}
use Rattle.network.specs.declared.terminal.Terminal.TheVariants.{Source, Sink}
use Rattle.network.specs.Nets.{Net}
use Rattle.network.specs.Cuts.{Selection, sum_below}
use Rattle.tile.specs.declared.direction.Direction.{Direction}
use Rattle.tile.specs.declared.direction.Direction.TheVariants.{Right, Left, Below, Above}
use Rattle.tile.specs.Grids.{owner, direction_of, neighbour, joined, grid}

-- the bytes of pixel v: its cost as line, its cost as tone, the penalty to the neighbour at the right and the one to that below
abbrev pub line : List ℕ → ℕ → ℕ
line bs v = slice_index bs (4 * v)

abbrev pub tone : List ℕ → ℕ → ℕ
tone bs v = slice_index bs (4 * v + 1)

-- the penalty between pixel v and its neighbour in a direction, in rows of w
abbrev pub penalty_to : ℕ → Direction → List ℕ → ℕ → ℕ
penalty_to w Right bs v = slice_index bs (4 * v + 2)
penalty_to w Left bs v = slice_index bs (4 * (v - 1) + 2)
penalty_to w Below bs v = slice_index bs (4 * v + 3)
penalty_to w Above bs v = slice_index bs (4 * (v - w) + 3)

-- line is the source's side of a cut, so what is tone pays the source
abbrev pub paid_to : Terminal → List ℕ → ℕ → ℕ
paid_to Source bs v = tone bs v
paid_to Sink bs v = line bs v

-- the network of a tile w wide and h high: a node for each pixel, and between neighbours two arcs, each with the penalty as residual
abbrev pub tile_network : ℕ → ℕ → List ℕ → Net
tile_network w h bs = record {
  graph = grid w (w * h);
  terminal = λ t v. paid_to t bs v;
  residual = λ a. cond (joined w (w * h) (direction_of a) (owner a)) (penalty_to w (direction_of a) bs (owner a)) 0;
}

-- whether one of two is line and the other tone
abbrev pub differ : Bool → Bool → Bool
differ x y = cond x (not y) y

-- what pixel v pays where its neighbour in a direction differs from it
abbrev pub paid : ℕ → ℕ → List ℕ → Selection → Direction → ℕ → ℕ
paid w n bs X d v = cond (joined w n d v && differ (X v) (X (neighbour w d v))) (penalty_to w d bs v) 0

-- the energy of a selection: the chosen costs, and the penalties of neighbours that differ
abbrev pub energy : ℕ → ℕ → List ℕ → Selection → ℕ
energy w h bs X =
    sum_below (w * h) (λ v. cond (X v) (line bs v) (tone bs v)) + sum_below (w * h) (λ v. paid w (w * h) bs X Right v + paid w (w * h) bs X Below v)
