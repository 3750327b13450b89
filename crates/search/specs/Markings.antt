-- The marks of the nodes by their trees.
use Rattle.std.specs.Prelude.{◌≡◌, ℕ, ◌<◌, List, slice_index}
use Rattle.network.specs.declared.terminal.Terminal.TheVariants.{Source, Sink}
use Rattle.network.specs.Sides.{mark_by}
use Rattle.network.specs.Marks.{mark_byte}
use Rattle.trees.specs.Forests.{Forest}
use Rattle.trees.specs.Trees.{tree_nodes}

-- the byte of a node's mark
abbrev pub tree_byte : Forest → ℕ → ℕ
tree_byte f u = mark_byte (mark_by (tree_nodes f Source u) (tree_nodes f Sink u))

-- the nodes below n have the marks that their trees give
abbrev pub MarkedByTree : Forest → ℕ → List ℕ → Type 0
MarkedByTree f n marks = (u : ℕ) → u < n → slice_index marks u ≡ tree_byte f u
