-- How a run ends: refused, paused or finished.
use Rattle.std.proofs.Common.{◌≡◌, ℕ, ◌≤◌, List, ◌++◌, length, take, drop, None, ap, ◌∙◌, arith}
use Rattle.std.proofs.lemmas.List.{length-append, length-drop, drop_at, get_or_append_left, take-append-drop}
use Rattle.std.proofs.lemmas.Bool.Decides.{nat_tests}
use Rattle.network.specs.declared.terminal.Terminal.TheVariants.{Source, Sink}
use Rattle.network.specs.Nets.{Net, Lawful}
use Rattle.network.specs.Paths.{Path, Augmenting}
use Rattle.network.specs.Sides.{Separate, mark_by}
use Rattle.network.proofs.Extremes.{extremes}
use Rattle.network.proofs.Duality.{finished, path_left}
use Rattle.trees.specs.declared.work.Work.{Work}
use Rattle.trees.specs.Forests.{Forest}
use Rattle.trees.specs.Trees.{tree_nodes}
use Rattle.search.specs.declared.report.Outcome.{Outcome}
use Rattle.search.specs.declared.report.Outcome.TheVariants.{Finished, Paused}
use Rattle.search.specs.declared.report.Report.{Report}
use Rattle.search.specs.Refusals.{first_refusal}
use Rattle.search.specs.Runs.{Lent, Stopped, Beyond, Ran}
use Rattle.search.specs.Trails.{Logged, Ended}
use Rattle.search.proofs.Logs.{logged_lowered, logged_nodes, trail_length}
use Rattle.search.proofs.Promises.{marks_of}

-- an accepted run has a record and a mark byte for each node
pub enough : (nodes records marks : ℕ) → first_refusal nodes records marks ≡ None → (nodes ≤ records) × (nodes ≤ marks)
enough nodes records marks none = (grind (arith, nat_tests), grind (arith, nat_tests))

-- the first n elements replaced
beyond : {A : Type 0} (n m : ℕ) (before part : List A) → m ≡ n → n ≤ length before → length part ≡ n → Beyond n before (part ++ drop m before)
beyond n m before part is room long = (
  omega (arith, length-append part (drop m before), length-drop m before),
  drop_at part (drop m before) n long ∙ ap (λ k. drop k before) is,
)

-- where the trees hold what is reached, no path is left
no_path : (v : Net) (f : Forest) → Lawful v → Separate v (tree_nodes f) → (p : Path) → Augmenting v p → ⊥
no_path v f l apart p h = let (X, _, free) = (extremes v (tree_nodes f) l apart).free in (path_left v l).0 (p, h) X free

-- what a run leaves that carried out the paths ps, where part and bytes came to stand in place of the first m records and marks
pub ran : (v w : Net) (before : Lent) (r : Report) (part : List Work) (trail bytes : List ℕ) (ps : List Path) (m : ℕ) → Lawful v → m ≡ v.graph.nodes → m ≤ length before.work → m ≤ length before.marks → length part ≡ m → length bytes ≡ m → Logged v w before.trail trail r.log ps → Ended w trail r.log (take m before.marks) bytes r.outcome → Ran v before r w (record { work = part ++ drop m before.work; trail = trail; marks = bytes ++ drop m before.marks }) ps
ran v w before r part trail bytes ps m l is records room long wide logged end = record {
  logged = logged;
  stopped = stopped r.outcome end;
  work = beyond v.graph.nodes m before.work part is (omega arith) (omega arith);
  marks = beyond v.graph.nodes m before.marks bytes is (omega arith) (omega arith);
}
  where
    after : Lent
    after = record { work = part ++ drop m before.work; trail = trail; marks = bytes ++ drop m before.marks }

    nodes : w.graph.nodes ≡ v.graph.nodes
    nodes = logged_nodes (ps, logged)

    stopped : (o : Outcome) → Ended w trail r.log (take m before.marks) bytes o → Stopped o v w before after r.log.words
    stopped Paused ((path, short), same) = (path, omega (arith, nodes, trail_length logged), ap (λ (xs : List ℕ). xs ++ drop m before.marks) same ∙ take-append-drop m before.marks)
    stopped Finished (f, apart, marked) = (
      no_path w f (logged_lowered l logged).lawful apart,
      marks_of v v.graph.nodes (bytes ++ drop m before.marks) l (λ u there. (
        mark_by (tree_nodes f Source u) (tree_nodes f Sink u),
        get_or_append_left bytes (drop m before.marks) 0 u (omega arith) ∙ marked u (omega (arith, nodes)),
        (finished v ps (tree_nodes f) l logged.successive (rw (← logged.value) apart)).1 u there,
      )),
    )
