-- What the calls on a tile answer, and what they leave of its table and of the tile.
use Rattle.std.specs.Prelude.{◌≡◌, ℕ, ◌*◌, List, [], length, drop, Some, None, Ok, Err, Option, Result}
use Rattle.std.specs.Borrow.{MutBor}
use Rattle.network.specs.Nets.{Net, Lawful}
use Rattle.network.specs.Cuts.{Selection, cost}
use Rattle.tile.specs.declared.pixel.Pixel.{Pixel}
use Rattle.tile.specs.declared.refusal.LayRefusal.{LayRefusal}
use Rattle.tile.specs.Tiles.{tile_network, energy}
use Rattle.tile.specs.Refusals.{lay_refusal}

-- a tile as it stands: the table that it borrows, the size of what is laid on it, and what it is as a network
pub record State : Type 0 where
  pub table : MutBor (List Pixel)
  pub width : ℕ
  pub height : ℕ
  pub net : Net

-- a new tile over a table: no pixel is laid
abbrev pub new_tile : MutBor (List Pixel) → State
new_tile table = record { table = table; width = 0; height = 0; net = tile_network 0 0 [] }

-- it is the same borrow of a table, told by its name, and the records from n on are as they were
pub record SparedFrom (n : ℕ) (before after : MutBor (List Pixel)) : Type 0 where
  pub same_table : after.ghost_name ≡ before.ghost_name
  pub as_long : length after.now ≡ length before.now
  pub untouched : drop n after.now ≡ drop n before.now

-- the costs bs are laid on the tile s, in rows of w, and t stands: their network, which keeps the laws, and in which each selection
-- costs its energy
pub record LaidOn (s : State) (w h : ℕ) (bs : List ℕ) (t : State) : Type 0 where
  pub width : t.width ≡ w
  pub height : t.height ≡ h
  pub network : t.net ≡ tile_network w h bs
  pub lawful : Lawful (tile_network w h bs)
  pub energy : (X : Selection) → cost (tile_network w h bs) X ≡ energy w h bs X
  pub spared : SparedFrom (w * h) s.table t.table

abbrev pub lay_refused : State → ℕ → ℕ → List ℕ → Option LayRefusal
lay_refused s w h bs = lay_refusal w h bs (length s.table.now)

-- a lay: refused, which leaves everything, or accepted
abbrev pub Laid : State → ℕ → ℕ → List ℕ → Result (Unit {0}) LayRefusal → State → Type 0
Laid s w h bs (Err e) t = (lay_refused s w h bs ≡ Some e) × (t ≡ s)
Laid s w h bs (Ok _) t = (lay_refused s w h bs ≡ None) × LaidOn s w h bs t

-- what changes of the network keep of a tile: its size, and the records from its pixels on
pub record StillLaid (s t : State) : Type 0 where
  pub width : t.width ≡ s.width
  pub height : t.height ≡ s.height
  pub spared : SparedFrom (s.width * s.height) s.table t.table
