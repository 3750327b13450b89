-- What a run answers and leaves, and what runs in a row give.
use Rattle.std.specs.Prelude.{◌≡◌, ℕ, ◌+◌, ◌<◌, ◌≤◌, List, length, drop, Some, None, Ok, Err, Option, Result, slice_index}
use Rattle.network.specs.declared.mark.Mark.{Mark}
use Rattle.network.specs.Nets.{Net, Lawful}
use Rattle.network.specs.Cuts.{Selection, cost, CheapestCost, Marked}
use Rattle.network.specs.Paths.{Path, Augmenting}
use Rattle.network.specs.Marks.{mark_byte}
use Rattle.trees.specs.declared.work.Work.{Work}
use Rattle.search.specs.declared.refusal.RunRefusal.{RunRefusal}
use Rattle.search.specs.declared.report.Outcome.{Outcome}
use Rattle.search.specs.declared.report.Outcome.TheVariants.{Finished, Paused}
use Rattle.search.specs.declared.report.Report.{Report}
use Rattle.search.specs.Refusals.{first_refusal}
use Rattle.search.specs.Trails.{Logged}

-- what a run is lent besides the network
pub record Lent : Type 0 where
  pub work : List Work
  pub trail : List ℕ
  pub marks : List ℕ

-- why a run is refused, where the network has n nodes
abbrev pub refused : ℕ → Lent → Option RunRefusal
refused n l = first_refusal n (length l.work) (length l.marks)

-- the first n of the bytes tell what the cheapest selections of v say of each node, and nothing else would be true of it
pub record MarksOf (v : Net) (n : ℕ) (marks : List ℕ) : Type 0 where
  pub mark : (u : ℕ) → u < n → (m : Mark) × (slice_index marks u ≡ mark_byte m) × Marked v u m
  pub only : (u : ℕ) (m : Mark) → u < n → Marked v u m → slice_index marks u ≡ mark_byte m

-- why a run stopped with the network at w: paused, since a path is left and fewer than n + 2 words are unused, with the marks as
-- they were; or finished, since none is left, with the marks of all nodes
abbrev pub Stopped : Outcome → Net → Net → Lent → Lent → ℕ → Type 0
Stopped Paused v w before after words = ((p : Path) × Augmenting w p) × (length before.trail < words + (v.graph.nodes + 2)) × (after.marks ≡ before.marks)
Stopped Finished v w before after words = ((p : Path) → Augmenting w p → ⊥) × MarksOf v v.graph.nodes after.marks

-- only the first n elements may have changed
abbrev pub Beyond : {A : Type 0} → ℕ → List A → List A → Type 0
Beyond n before after = (length after ≡ length before) × (drop n after ≡ drop n before)

-- the run carried out the paths ps
pub record Ran (v : Net) (before : Lent) (r : Report) (w : Net) (after : Lent) (ps : List Path) : Type 0 where
  pub logged : Logged v w before.trail after.trail r.log ps
  pub stopped : Stopped r.outcome v w before after r.log.words
  pub work : Beyond v.graph.nodes before.work after.work
  pub marks : Beyond v.graph.nodes before.marks after.marks

-- a run that is refused leaves everything; one that is not carries out some paths
abbrev pub Run : Net → Lent → Result Report RunRefusal → Net → Lent → Type 0
Run v before (Err e) w after = (refused v.graph.nodes before ≡ Some e) × (w ≡ v) × (after ≡ before)
Run v before (Ok r) w after = (refused v.graph.nodes before ≡ None) × (ps : List Path) × Ran v before r w after ps

-- a refused run gains nothing and counts no path
abbrev pub gained : Result Report RunRefusal → ℕ
gained (Ok r) = r.log.gain
gained (Err e) = 0

abbrev pub counted : Result Report RunRefusal → ℕ
counted (Ok r) = r.log.paths
counted (Err e) = 0

-- runs in a row, refused and paused ones among them, with whatever each was lent, from the value v at handing over to w; all that
-- they gained, and all the paths that they counted
pub data Runs (v : Net) : Net → ℕ → ℕ → Type 0 where
  none : Lawful v → Runs v v 0 0
  then : {w x : Net} {g k : ℕ} → Runs v w g k → (before : Lent) (r : Result Report RunRefusal) (after : Lent) → Run w before r x after → Runs v x (g + gained r) (k + counted r)

-- what a finished run says of the network at handing over, when g was gained since
abbrev pub Concluded : Net → ℕ → Result Report RunRefusal → Lent → Type 0
Concluded v g (Err e) after = Unit {0}
Concluded v g (Ok r) after = r.outcome ≡ Finished → CheapestCost v g × MarksOf v v.graph.nodes after.marks

-- what is promised of the network v at handing over, when the runs since, this one with them, gained g and counted k paths
pub record Promised (v : Net) (g k : ℕ) (r : Result Report RunRefusal) (w : Net) (after : Lent) : Type 0 where
  -- each selection costs what it cost at handing over, less all gained since
  pub costs : (X : Selection) → cost w X + g ≡ cost v X
  -- a finished run has gained the rest of the cheapest cost at handing over, and its marks are about the selections cheapest then
  pub concluded : Concluded v g r after
  -- never more paths than were gained, in this run and in all together, and never more than the cheapest cost
  pub few : counted r ≤ gained r
  pub few_in_all : k ≤ g
  pub bounded : (c : ℕ) → CheapestCost v c → g ≤ c

-- for every list of runs that led to the value before this one
abbrev pub Promise : Net → Result Report RunRefusal → Net → Lent → Type 0
Promise w r x after = (v : Net) (g k : ℕ) → Runs v w g k → Promised v (g + gained r) (k + counted r) r x after
