-- What each step of the search needs and leaves: the trees over a network, kept in a table and its queues.
use Rattle.std.specs.Prelude.{◌≡◌, ℕ, true, List, Some, None, Option}
use Rattle.network.specs.Nets.{Ends, Net}
use Rattle.trees.specs.declared.lane.Lanes.{Lanes}
use Rattle.trees.specs.declared.ring.Ring.{Ring}
use Rattle.trees.specs.declared.lane.Lane.{Lane}
use Rattle.trees.specs.declared.lane.Lane.TheVariants.{Waiting, Orphans}
use Rattle.trees.specs.declared.work.Work.{Work}
use Rattle.trees.specs.Forests.{Forest, forest, slots, with_queued}
use Rattle.trees.specs.Rings.{Sound, Empty}
use Rattle.trees.specs.Trees.{Trees, Bridge}

-- the queues hold what they say
abbrev pub Kept : List Work → Lanes Ring → Type 0
Kept ws q = Sound (forest ws) (slots ws) q

-- the trees, with a node that counts as queued since it has just been picked
abbrev pub TreesBut : Net → Forest → Lane → ℕ → Type 0
TreesBut v f l u = Trees v (with_queued f l u true)

-- an arc from the source's tree to the sink's
abbrev pub Bridges : Net → Forest → ℕ → Type 0
Bridges v f a = (e : Ends) × Bridge v f a e

-- what a look at the arcs of a picked node leaves: a bridge, or a node that need not wait any longer
abbrev pub Scanned : Net → ℕ → Forest → Option ℕ → Type 0
Scanned v u f None = Trees v f
Scanned v u f (Some a) = TreesBut v f Waiting u × Bridges v f a

-- what growth leaves: a bridge, or trees that cannot grow
abbrev pub Grown : Net → Forest → Option ℕ → Type 0
Grown v f None = Trees v f × Empty f Waiting
Grown v f (Some a) = Trees v f × Bridges v f a

-- growth makes no orphans, and leaves what adoption found out
pub record Grows (before after : Forest) : Type 0 where
  pub size : after.size ≡ before.size
  pub orphans : after.queued Orphans ≡ before.queued Orphans
  pub stages : after.stage ≡ before.stage
