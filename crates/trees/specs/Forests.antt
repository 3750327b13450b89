-- What a table of records means: each node's tree and parent, and the nodes in each queue.
use Rattle.std.specs.Prelude.{ℕ, Bool, true, false, List, length, Some, None, Option, slice_index_or}
use Rattle.network.specs.declared.terminal.Terminal.{Terminal}
use Rattle.network.specs.declared.terminal.Terminal.TheVariants as Terminals
use Rattle.network.specs.Nets.{at}
use Rattle.trees.specs.declared.lane.Lane.{Lane}
use Rattle.trees.specs.declared.lane.Lane.TheVariants.{Waiting, Orphans}
use Rattle.trees.specs.declared.lane.Lanes.{Lanes}
use Rattle.trees.specs.declared.ring.Ring.{Ring}
use Rattle.trees.specs.declared.work.Parent.{Parent}
use Rattle.trees.specs.declared.work.Parent.TheVariants.{Orphan}
use Rattle.trees.specs.declared.work.Tree.{Tree}
use Rattle.trees.specs.declared.work.Tree.TheVariants.{Neither, Source, Sink}
use Rattle.trees.specs.declared.work.Work.{Work}

pub record Forest : Type 0 where
  -- how many records there are
  pub size : ℕ
  pub tree : ℕ → Option Terminal
  pub parent : ℕ → Parent
  -- whether a node is in a queue
  pub queued : Lane → ℕ → Bool
  -- the stage of adoption in which a node was last found to hang from its terminal
  pub stage : ℕ → ℕ

-- the same value for each queue
abbrev pub both : {A : Type 0} → A → Lanes A
both x = record { waiting = x; orphans = x }

-- the record of a node in no tree and no queue; past the end of a table too, where nothing reads it
abbrev pub blank : Work
blank = record { tree = Neither; parent = Orphan; queued = both false; slots = both 0; stage = 0 }

abbrev pub work_at : List Work → ℕ → Work
work_at ws u = slice_index_or ws u blank

-- the terminal whose tree it is
abbrev pub terminal_of : Tree → Option Terminal
terminal_of Neither = None
terminal_of Source = Some Terminals.Source
terminal_of Sink = Some Terminals.Sink

-- the value for a queue
abbrev pub lane_of : {A : Type 0} → Lane → Lanes A → A
lane_of Waiting p = p.waiting
lane_of Orphans p = p.orphans

-- p with another value for a queue
abbrev pub put_lane : {A : Type 0} → Lane → A → Lanes A → Lanes A
put_lane Waiting x p = record { waiting = x; orphans = p.orphans }
put_lane Orphans x p = record { waiting = p.waiting; orphans = x }

abbrev pub forest : List Work → Forest
forest ws = record {
  size = length ws;
  tree = λ u. terminal_of (work_at ws u).tree;
  parent = λ u. (work_at ws u).parent;
  queued = λ l u. lane_of l (work_at ws u).queued;
  stage = λ u. (work_at ws u).stage;
}

-- the nodes at the places of a queue's ring
abbrev pub slots : List Work → Lane → ℕ → ℕ
slots ws l i = lane_of l (work_at ws i).slots

-- n nodes in no tree and no queue
abbrev pub cleared : ℕ → Forest
cleared n = record { size = n; tree = λ _. None; parent = λ _. Orphan; queued = λ _ _. false; stage = λ _. 0 }

abbrev pub empty_ring : Ring
empty_ring = record { head = 0; count = 0 }

abbrev pub no_queues : Lanes Ring
no_queues = both empty_ring

-- f with y for the queue l
abbrev pub at_lane : {A : Type 0} → (Lane → A) → Lane → A → Lane → A
at_lane f Waiting y Waiting = y
at_lane f Waiting y Orphans = f Orphans
at_lane f Orphans y Waiting = f Waiting
at_lane f Orphans y Orphans = y

abbrev pub with_tree : Forest → ℕ → Option Terminal → Forest
with_tree f u t = record { size = f.size; tree = at f.tree u t; parent = f.parent; queued = f.queued; stage = f.stage }

abbrev pub with_parent : Forest → ℕ → Parent → Forest
with_parent f u p = record { size = f.size; tree = f.tree; parent = at f.parent u p; queued = f.queued; stage = f.stage }

abbrev pub with_queued : Forest → Lane → ℕ → Bool → Forest
with_queued f l u q = record { size = f.size; tree = f.tree; parent = f.parent; queued = at_lane f.queued l (at (f.queued l) u q); stage = f.stage }

abbrev pub with_stage : Forest → ℕ → ℕ → Forest
with_stage f u s = record { size = f.size; tree = f.tree; parent = f.parent; queued = f.queued; stage = at f.stage u s }

-- f with a node put into a tree, below a parent, and among those that wait
abbrev pub joined : Forest → Terminal → ℕ → Parent → Forest
joined f t u p = with_queued (with_parent (with_tree f u (Some t)) u p) Waiting u true

-- f with a node that has lost its parent
abbrev pub orphaned : Forest → ℕ → Forest
orphaned f u = with_queued (with_parent f u Orphan) Orphans u true
