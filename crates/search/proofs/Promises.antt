-- Runs in a row: what they gained is what every selection costs less, and a finished one has gained the cheapest cost.
use Rattle.std.proofs.Common.{◌≡◌, ℕ, ◌+◌, ◌<◌, ◌≤◌, List, [], ◌∷◌, get_or, Ok, Err, Result, refl, ap, ◌∙◌, subst, arith}
use Rattle.network.specs.declared.mark.Mark.{Mark}
use Rattle.network.specs.Nets.{Graph, Net, Lawful}
use Rattle.network.specs.Cuts.{CheapestCost, Marked}
use Rattle.network.specs.Paths.{Path, Augmenting, Successive, gain}
use Rattle.network.specs.Marks.{mark_byte}
use Rattle.network.specs.Theorems.{Lowered}
use Rattle.network.proofs.Carrying.{paths_lower, few_paths}
use Rattle.network.proofs.Extremes.{constant_apart}
use Rattle.network.proofs.Duality.{max_flow_min_cut, one_mark}
use Rattle.search.specs.declared.refusal.RunRefusal.{RunRefusal}
use Rattle.search.specs.declared.report.Report.{Report}
use Rattle.search.specs.Runs.{Lent, MarksOf, Run, Runs, gained, counted, Concluded, Promise}
use Rattle.search.specs.Runs.Runs.{none, then}

-- what is gained is what every selection costs less, and paths are never more than that
pub record Lower (v : Net) (g k : ℕ) (w : Net) : Type 0 where
  pub begun : Lawful v
  pub lowered : Lowered v g w
  pub few : k ≤ g

lower_none : (v : Net) → Lawful v → Lower v 0 0 v
lower_none v l = record { begun = l; lowered = record { graph = refl; lawful = l; costs = λ X. omega arith }; few = omega arith }

-- one run
run_lower : (v : Net) (before : Lent) (r : Result Report RunRefusal) (w : Net) (after : Lent) → Lawful v → Run v before r w after → Lower v (gained r) (counted r) w
run_lower v before (Err e) w after l (_, same, _) = rw same (lower_none v l)
run_lower v before (Ok r) w after l (_, ps, ran) =
    let log = ran.logged in
    record {
      begun = l;
      lowered = rw (log.gain, log.value) (paths_lower v ps l log.successive);
      few = omega (arith, few_paths v ps log.successive, log.paths, log.gain);
    }

-- and then another
lower_on : (v : Net) (g k : ℕ) (w : Net) (h j : ℕ) (x : Net) → Lower v g k w → Lower w h j x → Lower v (g + h) (k + j) x
lower_on v g k w h j x first second = record {
  begun = first.begun;
  lowered = record {
    graph = second.lowered.graph ∙ first.lowered.graph;
    lawful = second.lowered.lawful;
    costs = λ X. omega (arith, first.lowered.costs X, second.lowered.costs X);
  };
  few = omega (arith, first.few, second.few);
}

pub runs_lower : (v w : Net) (g k : ℕ) → Runs v w g k → Lower v g k w
runs_lower v w g k (none l) = lower_none v l
runs_lower v x _ _ (then {w = w} {g = g} {k = k} rest before r after run) =
    let so_far = runs_lower v w g k rest in
    lower_on v g k w (gained r) (counted r) x so_far (run_lower w before r x after so_far.lowered.lawful run)

-- where no path is left, the cheapest cost is 0
nothing_left : (v : Net) → Lawful v → ((p : Path) → Augmenting v p → ⊥) → CheapestCost v 0
nothing_left v l no_path = let (ps, successive, cheapest) = max_flow_min_cut v l in by ps successive cheapest
  where
    by : (ps : List Path) → Successive v ps → CheapestCost v (gain ps) → CheapestCost v 0
    by [] successive cheapest = cheapest
    by (p ∷ ps) (h, _) cheapest = absurd (no_path p h)

-- a node has one mark at most, so the bytes are the only ones
pub marks_of : (v : Net) (n : ℕ) (marks : List ℕ) → Lawful v → ((u : ℕ) → u < n → (m : Mark) × (get_or marks u 0 ≡ mark_byte m) × Marked v u m) → MarksOf v n marks
marks_of v n marks l mark = record {
  mark = mark;
  only = λ u m there marked. let (k, byte, is) = mark u there in byte ∙ ap mark_byte (one_mark v u k m l is marked);
}

-- a finished run, after others, gained the rest of the cheapest cost at handing over
concluded : (v w : Net) (g k : ℕ) (before : Lent) (r : Report) (x : Net) (after : Lent) → Lower v g k w → (run : Run w before (Ok r) x after) → Lower v (g + r.log.gain) (k + r.log.paths) x → Concluded v (g + r.log.gain) (Ok r) after
concluded v w g k before r x after so_far (_, ps, ran) all finished =
    let (no_path, marks) = rw finished at ran.stopped in
    let cheapest : CheapestCost v (g + r.log.gain) = subst (CheapestCost v) (omega arith) ((constant_apart v x (g + r.log.gain) all.lowered.costs).costs 0 (nothing_left x all.lowered.lawful no_path)) in
    let same = ap (λ (h : Graph). h.nodes) so_far.lowered.graph in (
      cheapest,
      marks_of v v.graph.nodes after.marks so_far.begun (λ u there.
          let (m, byte, marked) = marks.mark u (omega (arith, same)) in
          (m, byte, (constant_apart v w g so_far.lowered.costs).marks u m marked)),
    )

-- the promise follows from what a run answers and leaves
pub promised : (w : Net) (before : Lent) (r : Result Report RunRefusal) (x : Net) (after : Lent) → Run w before r x after → Promise w r x after
promised w before r x after run v g k runs =
    let so_far = runs_lower v w g k runs in
    let this = run_lower w before r x after so_far.lowered.lawful run in
    let all = lower_on v g k w (gained r) (counted r) x so_far this in
    record {
      costs = all.lowered.costs;
      concluded = by r run all;
      few = this.few;
      few_in_all = all.few;
      bounded = λ c (X, _, is). omega (arith, all.lowered.costs X, is);
    }
  where
    by : (r : Result Report RunRefusal) → Run w before r x after → Lower v (g + gained r) (k + counted r) x → Concluded v (g + gained r) r after
    by (Err e) run all = tt
    by (Ok r) run all = concluded v w g k before r x after (runs_lower v w g k runs) run all
