-- Runs that are repeated until one finishes: each that pauses has gained something, so they end.
use Rattle.std.proofs.Common.{◌≡◌, ℕ, ◌+◌, ◌^◌, ◌<◌, ◌≤◌, List, [], ◌∷◌, length, None, Ok, Err, Result, refl, ap, ◌∙◌, arith}
use Rattle.std.specs.Result.{IsOk}
use Rattle.std.proofs.lemmas.Bool.Decides.{nat_tests}
use Rattle.network.specs.Nets.{Graph, Net, Lawful}
use Rattle.network.specs.Cuts.{cost, CheapestCost}
use Rattle.network.specs.Paths.{Path, Successive, gain, trail_words}
use Rattle.network.proofs.Carrying.{some_amount}
use Rattle.search.specs.declared.refusal.RunRefusal.{RunRefusal}
use Rattle.search.specs.declared.report.Outcome.TheVariants.{Finished, Paused}
use Rattle.search.specs.declared.report.Report.{Report}
use Rattle.search.specs.Runs.{Lent, MarksOf, Beyond, refused, Run}
use Rattle.search.specs.Runs.Runs.{none, then}
use Rattle.search.specs.Trails.{everything}
use Rattle.engine.specs.Gains.{Gained}
use Rattle.search.proofs.Logs.{dear}
use Rattle.search.proofs.Promises.{runs_lower, promised}

-- which has as many nodes
pub same_nodes : (v w : Net) (g : ℕ) → Gained v w g → w.graph.nodes ≡ v.graph.nodes
same_nodes v w g (k, runs) = ap (λ (h : Graph). h.nodes) (runs_lower v w g k runs).lowered.graph

-- a run that is lent enough is not refused
not_refused : (n : ℕ) (l : Lent) → n ≤ length l.work → n ≤ length l.marks → refused n l ≡ None
not_refused n l records bytes = grind (arith, nat_tests)

pub accepted : (v w : Net) (before after : Lent) (r : Result Report RunRefusal) → v.graph.nodes ≤ length before.work → v.graph.nodes ≤ length before.marks → Run v before r w after → IsOk r
accepted v w before after (Ok e) records bytes ran = refl
accepted v w before after (Err x) records bytes (refusal, _, _) = let enough = not_refused v.graph.nodes before records bytes in cc

-- paths that take words gain something
some_gain : (v : Net) (ps : List Path) → Successive v ps → 0 < length (trail_words ps) → 0 < gain ps
some_gain v [] h some = absurd (omega arith)
some_gain v (p ∷ ps) (h, _) some = omega (arith, some_amount v p h)

-- so a run that pauses has gained something, where its trail could hold a path
pub paused_gains : (v w : Net) (before after : Lent) (r : Report) → Run v before (Ok r) w after → r.outcome ≡ Paused → v.graph.nodes + 2 ≤ length before.trail → 0 < r.log.gain
paused_gains v w before after r (_, ps, ran) paused room =
    let (_, short, _) = rw paused at ran.stopped in
    let log = ran.logged in
    omega (arith, some_gain v ps log.successive (omega (arith, log.words)), log.gain)

-- one run more
pub gained_more : (v w x : Net) (g : ℕ) (before after : Lent) (r : Report) → Gained v w g → Run w before (Ok r) x after → Gained v x (g + r.log.gain)
gained_more v w x g before after r (k, runs) ran = (k + r.log.paths, then runs before (Ok r) after ran)

-- and the marks beyond those of the nodes stay
pub still_beyond : (v w x : Net) (g : ℕ) (before after : Lent) (r : Report) (marks : List ℕ) → Gained v w g → Run w before (Ok r) x after → Beyond v.graph.nodes marks before.marks → Beyond v.graph.nodes marks after.marks
still_beyond v w x g before after r marks led (_, ps, ran) (long, rest) =
    let same = same_nodes v w g led in
    let (wide, left) : Beyond v.graph.nodes before.marks after.marks = rw same at ran.marks in
    (wide ∙ long, left ∙ rest)

-- and every selection costs less
pub costs_less : (w x : Net) (before after : Lent) (r : Report) → Lawful w → Run w before (Ok r) x after → cost x everything + r.log.gain ≡ cost w everything
costs_less w x before after r l ran = omega (arith, (promised w before (Ok r) x after ran w 0 0 (none l)).costs everything)

-- the gains stay small
pub gains_small : (v w x : Net) (g : ℕ) (before after : Lent) (r : Report) → Lawful v → Gained v w g → Run w before (Ok r) x after → g + r.log.gain ≤ 2 ^ 52
gains_small v w x g before after r l (k, runs) ran = omega (arith, (promised w before (Ok r) x after ran v g k runs).costs everything, dear v l)

-- where a run finishes, what was gained is the cheapest cost, and the marks are about the selections cheapest at first
pub concluded : (v w x : Net) (g : ℕ) (before after : Lent) (r : Report) → Gained v w g → Run w before (Ok r) x after → r.outcome ≡ Finished → CheapestCost v (g + r.log.gain) × MarksOf v v.graph.nodes after.marks
concluded v w x g before after r (k, runs) ran is = (promised w before (Ok r) x after ran v g k runs).concluded is
