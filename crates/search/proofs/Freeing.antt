-- The loop that lets go of the neighbours of an orphan, before it becomes free: what holds before each place.
use Rattle.std.proofs.Common.{◌≡◌, ℕ, ◌+◌, ◌<◌, true, ltb, Some, None, Option, sym, refl, ap, ◌∙◌, arith}
use Rattle.std.proofs.lemmas.Bool.{cond_both}
use Rattle.std.proofs.lemmas.Bool.Decides.{nat_tests}
use Rattle.std.specs.List.{slice_get}
use Rattle.network.specs.declared.terminal.Terminal.{Terminal}
use Rattle.network.specs.Nets.{Ends, Net, Lawful, reversed}
use Rattle.network.specs.Sides.{near, far}
use Rattle.network.proofs.Laws.{near_reversed, far_reversed}
use Rattle.trees.specs.declared.lane.Lane.TheVariants.{Waiting, Orphans}
use Rattle.trees.specs.declared.work.Parent.TheVariants.{Orphan, Along}
use Rattle.trees.specs.Forests.{Forest, with_tree, with_queued, orphaned}
use Rattle.trees.specs.Trees.{Anchored, Branch, Trees, is_of}
use Rattle.trees.specs.Surveys.{SurveyKept}
use Rattle.trees.specs.Searches.{TreesBut}
use Rattle.trees.specs.Carryings.{disowned}
use Rattle.trees.proofs.Points.{at_twice, at_more}
use Rattle.trees.proofs.Places.{Through, through_all}
use Rattle.trees.proofs.Hanging.{cut_along}
use Rattle.trees.proofs.Changes.{requeue_trees, orphan_trees, free_trees}
use Rattle.trees.proofs.Anchors.{anchored_above, orphan_loose, survey_queued, survey_orphaned, survey_freed}
use Rattle.trees.proofs.Disowning.{each_way, disowned_here, disowned_waits}
use Rattle.trees.proofs.Ending.{is_of_true, is_of_some}
use Rattle.search.specs.declared.reading.Neighbour.{Neighbour}
use Rattle.search.specs.Readings.{Beside}
use Rattle.search.specs.Adoptions.{woken, released}
use Rattle.search.proofs.Neighbours.{through_more}

-- nobody in the tree of t hangs from the arc, and its far end waits if something can be sent back
abbrev pub Loose : Net → Forest → Terminal → ℕ → Ends → Type 0
Loose v f t a e = f.tree (far t e) ≡ Some t → (0 < v.residual e.reverse → f.queued Waiting (far t e) ≡ true) × ((w : ℕ) → f.parent (far t e) ≡ Along a w → ⊥)

pub record Freeing (v : Net) (t : Terminal) (u k : ℕ) (before f : Forest) : Type 0 where
  pub trees : TreesBut v f Orphans u
  pub same : f.tree ≡ before.tree
  pub mine : f.tree u ≡ Some t
  pub alone : f.parent u ≡ Orphan
  pub survey : SurveyKept v before f
  pub seen : Through v.graph t u k (Loose v f t)

-- a node waits
freeing_woken : (v : Net) (t : Terminal) (u k w : ℕ) (before f : Forest) → Freeing v t u k before f → Freeing v t u k before (with_queued f Waiting w true)
freeing_woken v t u k w before f h =
    record {
      trees = requeue_trees v (with_queued f Orphans u true) _ (at_more (f.queued Waiting) w) (λ _ is. is) h.trees;
      same = h.same;
      mine = h.mine;
      alone = h.alone;
      survey = λ stage s. survey_queued v f stage Waiting w true (h.survey stage s);
      seen = λ j a e below is from at in_tree. let (waits, loose) = h.seen j a e below is from at in_tree in (λ some. at_more (f.queued Waiting) w (far t e) (waits some), loose);
    }

-- a child loses its parent
freeing_orphaned : (v : Net) (t : Terminal) (u k c a w : ℕ) (e : Ends) (before f : Forest) → Lawful v → Freeing v t u k before f → f.parent c ≡ Along a w → f.tree c ≡ Some t → v.graph.ends a ≡ Some e → near t e ≡ u → Freeing v t u k before (orphaned f c)
freeing_orphaned v t u k c a w e before f l h hangs child is from =
    let loose : (y : Terminal) → f.tree c ≡ Some y → Anchored v.graph f.parent y c → ⊥ = λ y in_tree anchored.
    let side : y ≡ t = cc in
    orphan_loose v.graph f.parent t u h.alone (rw (← from) (anchored_above v.graph f.parent t c a w e hangs is (rw side at anchored))) in
    record {
      trees = requeue_trees v (orphaned (with_queued f Orphans u true) c) _ (λ _ is. is) (at_twice (f.queued Orphans) u c) (orphan_trees v (with_queued f Orphans u true) c a w h.trees hangs);
      same = h.same;
      mine = h.mine;
      alone = grind (arith, nat_tests, h.alone);
      survey = λ stage s. survey_orphaned v f stage c l (h.survey stage s) loose;
      seen = λ j b d below at_b out place in_tree.
          let (waits, old) = h.seen j b d below at_b out place in_tree in
          (waits, λ w now. old w (cut_along f.parent c (far t d) b w now));
    }

-- f where a neighbour waits, if something can be sent from it
freeing_wakes : (v : Net) (t : Terminal) (u k : ℕ) (h : Neighbour) (before f : Forest) → Freeing v t u k before f → Freeing v t u k before (woken h f)
freeing_wakes v t u k h before f s = cond_both (ltb 0 h.inward_residual) (with_queued f Waiting h.node true) f (Freeing v t u k before) (λ _. freeing_woken v t u k h.node before f s) (λ _. s)

-- and is an orphan, if it hung from the node
freeing_disowns : (v : Net) (t : Terminal) (u k : ℕ) (h : Neighbour) (before f : Forest) → Lawful v → Freeing v t u k before f → Beside v t u k h → f.tree h.node ≡ Some t → Freeing v t u k before (disowned f h.node h.outward)
freeing_disowns v t u k h before f l s b child = each_way (Freeing v t u k before) f h.node h.outward
    (λ w hangs. freeing_orphaned v t u k h.node h.outward w b.ends before f l s hangs child b.out b.from)
    (λ _. s)

woken_tree : (h : Neighbour) (f : Forest) → (woken h f).tree ≡ f.tree
woken_tree h f = cond_both (ltb 0 h.inward_residual) (with_queued f Waiting h.node true) f (λ g. g.tree ≡ f.tree) (λ _. refl) (λ _. refl)

woken_waits : (h : Neighbour) (f : Forest) → 0 < h.inward_residual → (woken h f).queued Waiting h.node ≡ true
woken_waits h f some = grind (arith, nat_tests)

-- a neighbour in the tree is let go: it wakes, and loses its parent if that is the node
pub released_in : (t : Terminal) (h : Neighbour) (f g g' : Forest) → is_of (f.tree h.node) t ≡ true → g ≡ woken h f → g' ≡ disowned g h.node h.outward → g' ≡ released t h f
released_in t h f g g' is wakes loses = loses ∙ ap (λ g. disowned g h.node h.outward) wakes ∙ rw is refl

-- the neighbour at this place has been let go
freeing_more : (v : Net) (t : Terminal) (u k : ℕ) (h : Neighbour) (before f : Forest) → Lawful v → Freeing v t u k before f → Beside v t u k h → Freeing v t u (k + 1) before (released t h f)
freeing_more v t u k h before f l s b =
    let w = h.node in
    let on : (g : Forest) → Freeing v t u k before g → Loose v g t h.outward b.ends → Freeing v t u (k + 1) before g = λ g s loose. record {
      trees = s.trees;
      same = s.same;
      mine = s.mine;
      alone = s.alone;
      survey = s.survey;
      seen = through_more v t u k h (Loose v g t) l b s.seen loose;
    } in
    cond_both (is_of (f.tree w) t) (disowned (woken h f) w h.outward) f (Freeing v t u (k + 1) before)
    (λ is.
    let child : (woken h f).tree w ≡ Some t = ap (λ (T : ℕ → Option Terminal). T w) (woken_tree h f) ∙ is_of_some (f.tree w) t is in
    let g = disowned (woken h f) w h.outward in
    on g (freeing_disowns v t u k h before (woken h f) l (freeing_wakes v t u k h before f s) b child)
    (λ _. rw b.to (λ some. disowned_waits (woken h f) w h.outward w (woken_waits h f (rw (← b.takes, ← b.back) some)), disowned_here (woken h f) w h.outward)))
    (λ is. on f s (λ in_tree. cc (b.to, is_of_true t)))

pub freeing_after : {v : Net} {t : Terminal} {u k : ℕ} {h : Neighbour} {before f f' : Forest} → Lawful v → Freeing v t u k before f → Beside v t u k h → f' ≡ released t h f → Freeing v t u (k + 1) before f'
freeing_after l s b is = rw is (freeing_more _ _ _ _ _ _ _ l s b)

-- what the end of the loop needs to free the node
pub freeing_ends : {v : Net} {t : Terminal} {u k : ℕ} {before f : Forest} → Lawful v → Freeing v t u k before f → slice_get (v.graph.arcs u) k ≡ None → Trees v (with_tree f u None) × SurveyKept v before (with_tree f u None)
freeing_ends {v = v} {t = t} {u = u} {k = k} {f = f} l s past =
    let all = through_all v.graph t u k (Loose v f t) l.graph past s.seen in
    let childless : (y : Terminal) (x b : ℕ) (d : Ends) → Branch v f y x b d → f.tree x ≡ Some y → f.parent x ≡ Along b (near y d) → near y d ≡ u → ⊥ = λ y x b d br in_tree hangs from.
    let side : y ≡ t = cc in
    let (_, loose) = all b d br.ends (rw side at from) (cc) in
    loose (near y d) (cc) in
    let woken_up : (b : ℕ) (d : Ends) → Branch v f t u b d → f.queued Waiting (near t d) ≡ true = λ b d br.
    let e = reversed b d in
    let out = near_reversed t b d ∙ br.child in
    let back = far_reversed t b d in
    let (waits, _) = all d.reverse e (l.graph.back b d br.ends) out (ap f.tree back ∙ br.same_tree) in
    ap (f.queued Waiting) (sym back) ∙ waits br.positive in (
      free_trees v f t u s.trees s.alone s.mine childless woken_up,
      λ stage known. survey_freed v f stage u (s.survey stage known) childless,
    )
