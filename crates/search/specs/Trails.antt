-- The log of a run: the paths that it has carried out, and their words in the trail.
use Rattle.std.specs.Prelude.{◌≡◌, ℕ, ◌+◌, ◌^◌, ◌<◌, ◌≤◌, true, List, [], ◌++◌, length, take, drop}
use Rattle.network.specs.Nets.{Net}
use Rattle.network.specs.Cuts.{Selection, cost}
use Rattle.network.specs.Paths.{Path, Augmenting, carried, Successive, carried_all, gain, path_words, trail_words}
use Rattle.network.specs.Sides.{Separate}
use Rattle.trees.specs.Forests.{Forest}
use Rattle.trees.specs.Trees.{tree_nodes}
use Rattle.trees.specs.Plantings.{Apart}
use Rattle.search.specs.Markings.{MarkedByTree}
use Rattle.search.specs.declared.report.Log.{Log}
use Rattle.search.specs.declared.report.Outcome.{Outcome}
use Rattle.search.specs.declared.report.Outcome.TheVariants.{Finished, Paused}

-- each path is begun where n + 2 words are unused: of a trail of so many words, those of the paths before it are used
abbrev pub RoomForEach : ℕ → ℕ → List Path → Type 0
RoomForEach n size ps = (k : ℕ) → k < length ps → length (trail_words (take k ps)) + (n + 2) ≤ size

-- the paths ps led from v to w: each is an augmenting path on what those before it left, and was begun only where there was room;
-- the trail begins with their words, and ends as it did before; the log counts them, their gain and their words
pub record Logged (v w : Net) (before after : List ℕ) (log : Log) (ps : List Path) : Type 0 where
  pub successive : Successive v ps
  pub room : RoomForEach v.graph.nodes (length before) ps
  pub value : w ≡ carried_all v ps
  pub paths : log.paths ≡ length ps
  pub gain : log.gain ≡ gain ps
  pub words : log.words ≡ length (trail_words ps)
  pub fits : log.words ≤ length before
  pub trail : after ≡ trail_words ps ++ drop log.words before

abbrev pub SomeLogged : Net → Net → List ℕ → List ℕ → Log → Type 0
SomeLogged v w before after log = (ps : List Path) × Logged v w before after log ps

abbrev pub no_log : Log
no_log = record { paths = 0; gain = 0; words = 0 }

-- the selection with every node inside
abbrev pub everything : Selection
everything _ = true

-- what was gained and what can still be gained, so that no count grows too large
pub record Bounded (v : Net) (log : Log) : Type 0 where
  pub few : log.paths ≤ log.gain
  pub small : log.gain + cost v everything ≤ 2 ^ 52

-- the log of one path more
abbrev pub one_more : Log → Path → Log
one_more log p = record { paths = log.paths + 1; gain = log.gain + p.amount; words = log.words + length (path_words p) }

-- the path p led from v to w, and its words stand behind those of the log, where n + 2 were unused
pub record Further (v w : Net) (before after : List ℕ) (so_far more : Log) (p : Path) : Type 0 where
  pub augmenting : Augmenting v p
  pub room : so_far.words + (v.graph.nodes + 2) ≤ length before
  pub value : w ≡ carried v p
  pub log : more ≡ one_more so_far p
  pub fits : more.words ≤ length before
  pub trail : after ≡ take so_far.words before ++ (path_words p ++ drop more.words before)

abbrev pub SomeFurther : Net → Net → List ℕ → List ℕ → Log → Log → Type 0
SomeFurther v w before after so_far more = (p : Path) × Further v w before after so_far more p

-- paths led from v to w, one after another, and their words stand behind those of the log
abbrev pub Steps : Net → Net → List ℕ → List ℕ → Log → Log → Type 0
Steps v w before after so_far more = (u : Net) (trail : List ℕ) → SomeLogged u v trail before so_far → SomeLogged u w trail after more

-- the path of a single node
abbrev pub node_path : ℕ → ℕ → Path
node_path u x = record { amount = x; first = u; arcs = [] }

-- a path is left, and fewer than n + 2 words are unused
abbrev pub PauseDue : Net → List ℕ → Log → Type 0
PauseDue v trail log = ((p : Path) × Augmenting v p) × (length trail < log.words + (v.graph.nodes + 2))

-- the paths of single nodes are carried out, or a pause is due
abbrev pub Started : Net → List ℕ → Log → Outcome → Type 0
Started v trail log Paused = PauseDue v trail log
Started v trail log Finished = Apart v

-- the search ended because a pause is due, or because the trees hold what is reached from their terminals, with no node in both
abbrev pub Searched : Net → Forest → List ℕ → Log → Outcome → Type 0
Searched v f trail log Paused = PauseDue v trail log
Searched v f trail log Finished = Separate v (tree_nodes f)

-- and what is left of the marks then: they are as they were, or each tells the tree of its node
abbrev pub Ended : Net → List ℕ → Log → List ℕ → List ℕ → Outcome → Type 0
Ended v trail log before after Paused = PauseDue v trail log × (after ≡ before)
Ended v trail log before after Finished = (f : Forest) × Separate v (tree_nodes f) × MarkedByTree f v.graph.nodes after
