-- What is proved of every network's value: the theory of the cheapest cut.
use Rattle.std.specs.Prelude.{◌≡◌, ℕ, ◌+◌, ◌<◌, ◌≤◌, Bool, true, false, List, length, ◌≢◌}
use Rattle.network.specs.declared.mark.Mark.{Mark}
use Rattle.network.specs.declared.mark.Mark.TheVariants.{In, Out, Either}
use Rattle.network.specs.declared.terminal.Terminal.{Terminal}
use Rattle.network.specs.declared.terminal.Terminal.TheVariants.{Source, Sink}
use Rattle.network.specs.Nets.{Net, Lawful}
use Rattle.network.specs.Answers.{after_take, after_shift}
use Rattle.network.specs.Cuts.{Selection, cost, Cheapest, CheapestCost, Marked}
use Rattle.network.specs.Paths.{Path, Augmenting, carried, Successive, carried_all, gain, path_words, trail_words}
use Rattle.network.specs.Sides.{Reached, Separate, side, Closed, mark_by}

-- a take keeps the laws, whatever it is asked
abbrev pub TakeKeeps : Type 0
TakeKeeps = (v : Net) (t : Terminal) (u x : ℕ) → Lawful v → Lawful (after_take v t u x)

-- and so does a shift
abbrev pub ShiftKeeps : Type 0
ShiftKeeps = (v : Net) (a x : ℕ) → Lawful v → Lawful (after_shift v a x)

-- w has the graph of v and keeps the laws, and every selection costs x less in it
pub record Lowered (v : Net) (x : ℕ) (w : Net) : Type 0 where
  pub graph : w.graph ≡ v.graph
  pub lawful : Lawful w
  pub costs : (X : Selection) → cost w X + x ≡ cost v X

-- carrying out an augmenting path lowers the cost of every selection by its amount
abbrev pub PathLowers : Type 0
PathLowers = (v : Net) (p : Path) → Lawful v → Augmenting v p → Lowered v p.amount (carried v p)

-- a list of paths lowers it by their gain
abbrev pub PathsLower : Type 0
PathsLower = (v : Net) (ps : List Path) → Lawful v → Successive v ps → Lowered v (gain ps) (carried_all v ps)

-- there are never more paths than the gain
abbrev pub FewPaths : Type 0
FewPaths = (v : Net) (ps : List Path) → Successive v ps → length ps ≤ gain ps

-- a path takes at most n + 2 words in a trail
abbrev pub FewWords : Type 0
FewWords = (v : Net) (p : Path) → Lawful v → Augmenting v p → length (path_words p) ≤ v.graph.nodes + 2

-- the closed selections are those that cost nothing
abbrev pub ClosedFree : Type 0
ClosedFree = (v : Net) (X : Selection) → Lawful v → (Closed v X → cost v X ≡ 0) × (cost v X ≡ 0 → Closed v X)

-- where a selection costs nothing, the cheapest selections are the closed ones
abbrev pub CheapestClosed : Type 0
CheapestClosed = (v : Net) (X Y : Selection) → Lawful v → cost v X ≡ 0 → (Cheapest v Y → Closed v Y) × (Closed v Y → Cheapest v Y)

-- what is reached from a terminal is on its side of every closed selection
abbrev pub ReachedSides : Type 0
ReachedSides = (v : Net) (X : Selection) (t : Terminal) (u : ℕ) → Closed v X → Reached v t u → side t X u ≡ true

-- what is reached from the source is the smallest cheapest selection, what is not reached from the sink the largest, and the
-- marks follow
pub record Extreme (v : Net) (S : Terminal → Selection) : Type 0 where
  pub free : CheapestCost v 0
  pub cheapest : (t : Terminal) → Cheapest v (side t (S t))
  pub within : (X : Selection) (t : Terminal) (u : ℕ) → Cheapest v X → u < v.graph.nodes → S t u ≡ true → side t X u ≡ true
  pub marks : (u : ℕ) → u < v.graph.nodes → Marked v u (mark_by (S Source u) (S Sink u))

-- where no node is reached from both terminals, the sets reached are the extreme cheapest selections
abbrev pub Extremes : Type 0
Extremes = (v : Net) (S : Terminal → Selection) → Lawful v → Separate v S → Extreme v S

-- v and w have the same cheapest selections and the same marks, and the cheapest cost of v is c more
pub record SameCheapest (v : Net) (c : ℕ) (w : Net) : Type 0 where
  pub up : (X : Selection) → Cheapest w X → Cheapest v X
  pub down : (X : Selection) → Cheapest v X → Cheapest w X
  pub costs : (k : ℕ) → CheapestCost w k → CheapestCost v (k + c)
  pub marks : (u : ℕ) (m : Mark) → Marked w u m → Marked v u m

-- costs that differ by a constant
abbrev pub ConstantApart : Type 0
ConstantApart = (v w : Net) (c : ℕ) → ((X : Selection) → cost w X + c ≡ cost v X) → SameCheapest v c w

-- where paths were carried out until no node is reached from both terminals, their gain is the cheapest cost of the network
-- as it was before them, and its marks follow from what is reached after them
abbrev pub Finished : Type 0
Finished = (v : Net) (ps : List Path) (S : Terminal → Selection) → Lawful v → Successive v ps → Separate (carried_all v ps) S → CheapestCost v (gain ps) × ((u : ℕ) → u < v.graph.nodes → Marked v u (mark_by (S Source u) (S Sink u)))

-- an augmenting path is left exactly when no selection costs nothing
abbrev pub PathLeft : Type 0
PathLeft = (v : Net) → Lawful v → (((p : Path) × Augmenting v p) → (X : Selection) → cost v X ≢ 0) × (((X : Selection) → cost v X ≢ 0) → (p : Path) × Augmenting v p)

-- every network has a cheapest selection, and paths whose gain is its cost
abbrev pub MaxFlowMinCut : Type 0
MaxFlowMinCut = (v : Net) → Lawful v → (ps : List Path) × Successive v ps × CheapestCost v (gain ps)

-- a node has one mark at most
abbrev pub OneMark : Type 0
OneMark = (v : Net) (u : ℕ) (m k : Mark) → Lawful v → Marked v u m → Marked v u k → m ≡ k

-- whether a node of this mark is inside the selection of the nodes that are in, and that are either too where b says so
abbrev pub inside : Bool → Mark → Bool
inside b In = true
inside b Out = false
inside b Either = b

-- the nodes that every cheapest selection holds are themselves a cheapest selection, and so are those that some cheapest selection holds
abbrev pub MarkedCheapest : Type 0
MarkedCheapest = (v : Net) (mark : ℕ → Mark) (b : Bool) → Lawful v → ((u : ℕ) → u < v.graph.nodes → Marked v u (mark u)) → Cheapest v (λ u. inside b (mark u))

-- the words of a trail are those of one list of paths only
abbrev pub OneReading : Type 0
OneReading = (ps qs : List Path) → trail_words ps ≡ trail_words qs → ps ≡ qs
