-- The trees after each elementary change: a node joins, ends its wait, loses its parent, is adopted, is freed.
use Rattle.std.proofs.Common.{◌≡◌, ℕ, ◌<◌, Bool, true, ◌⊎◌, List, ◌∷◌, ◌++◌, Some, None, sym, refl, ap, ◌∙◌, subst, inl, inr, ⊎_elim, arith}
use Rattle.std.proofs.lemmas.Bool.{cases_eq}
use Rattle.std.proofs.lemmas.Bool.Decides.{nat_tests}
use Rattle.network.specs.declared.terminal.Terminal.{Terminal}
use Rattle.network.specs.Nets.{Ends, Net, Lawful, at}
use Rattle.network.specs.Sides.{near, far}
use Rattle.network.proofs.Laws.{near_there}
use Rattle.trees.specs.declared.lane.Lane.{Lane}
use Rattle.trees.specs.declared.lane.Lane.TheVariants.{Waiting, Orphans}
use Rattle.trees.specs.declared.work.Parent.{Parent}
use Rattle.trees.specs.declared.work.Parent.TheVariants.{Orphan, Root, Along}
use Rattle.trees.specs.Forests.{Forest, with_tree, with_parent, with_queued, joined, orphaned}
use Rattle.trees.specs.Trees.{Climb, Anchored, Hangs, Branch, Parents, Trees}
use Rattle.trees.specs.Trees.Climb.{up}
use Rattle.trees.specs.Surveys.{restaged}
use Rattle.trees.proofs.Points.{at_here, at_else}
use Rattle.trees.proofs.Climbs.{climb_stays, climb_append}
use Rattle.trees.proofs.Hanging.{climb_kept, hang_cut, cut_root, cut_along}

-- the same branch in another forest with these trees
pub branch_in : (v : Net) (f f' : Forest) (t : Terminal) (u a : ℕ) (e : Ends) → Branch v f t u a e → f'.tree (near t e) ≡ Some t → Branch v f' t u a e
branch_in v f f' t u a e b same = record { ends = b.ends; child = b.child; positive = b.positive; same_tree = same }

-- nodes hang from arcs that are there where no node has another tree or a new parent
pub parents_in : (v : Net) (f f' : Forest) → f'.tree ≡ f.tree → ((u a w : ℕ) → f'.parent u ≡ Along a w → f.parent u ≡ Along a w) → Parents v f → Parents v f'
parents_in v f f' same before parents t u a w there in_tree at =
    let (e, b, from) = parents t u a w there (cc (ap (λ (T : ℕ → _). T u) same)) (before u a w at) in
    (e, branch_in v f f' t u a e b (ap (λ (T : ℕ → _). T (near t e)) same ∙ b.same_tree), from)

-- and where a node w has come to hang from a
pub parents_hung : (v : Net) (f f' : Forest) (t : Terminal) (w a : ℕ) (e : Ends) → Branch v f t w a e → f'.tree w ≡ Some t → f'.parent w ≡ Along a (near t e) → ((x : ℕ) (s : Terminal) → f.tree x ≡ Some s → f'.tree x ≡ Some s) → ((x : ℕ) → (x ≡ w → ⊥) → (f.tree x ≡ f'.tree x) × (f.parent x ≡ f'.parent x)) → Parents v f → Parents v f'
parents_hung v f f' t w a e b mine hung kept else parents s x c z there in_tree at = ⊎_elim
    (λ (is : x ≡ w).
    let side : t ≡ s = cc in
    let arc : a ≡ c = cc in
    let from : near t e ≡ z = cc in
    rw (is, ← side, ← arc) (e, branch_in v f f' t w a e b (kept (near t e) t b.same_tree), from))
    (λ (not : x ≡ w → ⊥).
    let (tree, parent) = else x not in
    let (d, br, from) = parents s x c z there (tree ∙ in_tree) (parent ∙ at) in
    (d, branch_in v f f' s x c d br (kept (near s d) s br.same_tree), from))
    (cases_eq x w)

-- a free node joins the tree below u
pub join_trees : (v : Net) (f : Forest) (t : Terminal) (w a : ℕ) (e : Ends) → Lawful v → Trees v f → f.tree w ≡ None → Branch v f t w a e → Trees v (joined f t w (Along a (near t e)))
join_trees v f t w a e l h free b =
    let g = v.graph in
    let p = Along a (near t e) in
    let f' = joined f t w p in
    let kept : (x : ℕ) (s : Terminal) → f.tree x ≡ Some s → f'.tree x ≡ Some s = λ x s in_tree. grind (arith, nat_tests) in
    let parent_kept : (x : ℕ) (s : Terminal) → f.tree x ≡ Some s → f'.parent x ≡ f.parent x = λ x s in_tree. grind (arith, nat_tests) in
    let hang_kept : (s : Terminal) (x : ℕ) → x < g.nodes → f.tree x ≡ Some s → Hangs g f'.parent s x = λ s x there in_tree.
    let (top, arcs, climb, ends) = h.hangs s x there in_tree in
    let same = parent_kept top s (climb_stays v f s x top arcs l h there in_tree climb).1 in
    (top, arcs, climb_kept v f s f'.parent l h (λ y c z y_tree at_y. parent_kept y s y_tree ∙ at_y) x top arcs there in_tree climb, rw same ends) in
    record {
      size = h.size;
      roots = λ s x there some. let (in_tree, root) = h.roots s x there some in (kept x s in_tree, parent_kept x s in_tree ∙ root);
      rooted = λ s x there in_tree root. grind (arith, nat_tests, h.rooted s x there);
      parents = parents_hung v f f' t w a e b (at_here f.tree w (Some t) w refl) (at_here f.parent w p w refl) kept (λ x not. (grind (arith, nat_tests), grind (arith, nat_tests))) h.parents;
      hangs = λ s x there in_tree. ⊎_elim
          (λ (is : x ≡ w).
          let side : t ≡ s = cc (at_here f.tree w (Some t) x is) in
          let (top, arcs, climb, ends) = hang_kept t (near t e) (near_there g t a e l.graph b.ends) b.same_tree in
          rw (← side) (top, a ∷ arcs, up a e (at_here f.parent w p x is) b.ends climb, ends))
          (λ (not : x ≡ w → ⊥). hang_kept s x there (grind (arith, nat_tests)))
          (cases_eq x w);
      frontier = λ s c d is some in_tree. ⊎_elim
          (λ (this : near s d ≡ w). inr (at_here (f.queued Waiting) w true (near s d) this))
          (λ (not : near s d ≡ w → ⊥). ⊎_elim
          (λ (in_far : f.tree (far s d) ≡ Some s). inl (kept (far s d) s in_far))
          (λ (waits : f.queued Waiting (near s d) ≡ true). inr (grind (arith, nat_tests)))
          (h.frontier s c d is some (grind (arith, nat_tests))))
          (cases_eq (near s d) w);
      orphans = λ s x there in_tree alone. grind (arith, nat_tests, h.orphans s x there);
    }

-- the same trees with other queues and stages, where each node that must wait does, and each orphan is queued
kept_trees : (v : Net) (f : Forest) (queued : Lane → ℕ → Bool) (stage : ℕ → ℕ) → ((t : Terminal) (a : ℕ) (e : Ends) → v.graph.ends a ≡ Some e → 0 < v.residual a → f.tree (near t e) ≡ Some t → f.queued Waiting (near t e) ≡ true → (f.tree (far t e) ≡ Some t) ⊎ (queued Waiting (near t e) ≡ true)) → ((t : Terminal) (u : ℕ) → f.tree u ≡ Some t → f.parent u ≡ Orphan → f.queued Orphans u ≡ true → queued Orphans u ≡ true) → Trees v f → Trees v (record { size = f.size; tree = f.tree; parent = f.parent; queued = queued; stage = stage })
kept_trees v f queued stage waits lost h = record {
  size = h.size;
  roots = h.roots;
  rooted = h.rooted;
  parents = parents_in v f _ refl (λ _ _ _ is. is) h.parents;
  hangs = h.hangs;
  frontier = λ t a e is some in_tree. ⊎_elim inl (waits t a e is some in_tree) (h.frontier t a e is some in_tree);
  orphans = λ t u there in_tree alone. lost t u in_tree alone (h.orphans t u there in_tree alone);
}

-- a node whose positive arcs all stay in its tree need not wait
pub sleep_trees : (v : Net) (f : Forest) (u : ℕ) → Trees v (with_queued f Waiting u true) → ((t : Terminal) (a : ℕ) (e : Ends) → f.tree u ≡ Some t → v.graph.ends a ≡ Some e → near t e ≡ u → 0 < v.residual a → f.tree (far t e) ≡ Some t) → Trees v f
sleep_trees v f u h seen = kept_trees v (with_queued f Waiting u true) f.queued f.stage
    (λ t a e is some in_tree waits. ⊎_elim
    (λ (this : near t e ≡ u). inl (seen t a e (cc) is this some))
    (λ (not : near t e ≡ u → ⊥). inr (grind (arith, nat_tests)))
    (cases_eq (near t e) u))
    (λ _ _ _ _ queued. queued) h

-- f with more nodes in its queues
abbrev pub requeued : Forest → (Lane → ℕ → Bool) → Forest
requeued f queued = record { size = f.size; tree = f.tree; parent = f.parent; queued = queued; stage = f.stage }

-- nothing is lost by putting more nodes into a queue
pub requeue_trees : (v : Net) (f : Forest) (queued : Lane → ℕ → Bool) → ((x : ℕ) → f.queued Waiting x ≡ true → queued Waiting x ≡ true) → ((x : ℕ) → f.queued Orphans x ≡ true → queued Orphans x ≡ true) → Trees v f → Trees v (requeued f queued)
requeue_trees v f queued wait lost h = kept_trees v f queued f.stage (λ t a e _ _ _ waits. inr (wait (near t e) waits)) (λ _ x _ _. lost x) h

-- a node that is no orphan need not be in the queue of orphans
pub forget_trees : (v : Net) (f : Forest) (u : ℕ) → Trees v (with_queued f Orphans u true) → ((t : Terminal) → f.tree u ≡ Some t → f.parent u ≡ Orphan → ⊥) → Trees v f
forget_trees v f u h settled = kept_trees v (with_queued f Orphans u true) f.queued f.stage (λ _ _ _ _ _ _. inr) (λ t x in_tree alone queued. grind (arith, nat_tests, settled t)) h

-- what adoption found out says nothing of the trees
pub restage_trees : (v : Net) (f : Forest) (stage : ℕ → ℕ) → Trees v f → Trees v (restaged f stage)
restage_trees v f stage h = kept_trees v f f.queued stage (λ _ _ _ _ _ _. inr) (λ _ _ _ _ queued. queued) h

-- a node loses its parent
pub orphan_trees : (v : Net) (f : Forest) (c a z : ℕ) → Trees v f → f.parent c ≡ Along a z → Trees v (orphaned f c)
orphan_trees v f c a z h at_c = record {
  size = h.size;
  roots = λ s x there some. let (in_tree, root) = h.roots s x there some in (in_tree, grind (arith, nat_tests));
  rooted = λ s x there in_tree root. h.rooted s x there in_tree (cut_root f.parent c x root).1;
  parents = parents_in v f (orphaned f c) refl (cut_along f.parent c) h.parents;
  hangs = λ s x there in_tree. let (w, arcs, climb, top) = h.hangs s x there in_tree in hang_cut v.graph f.parent s c x w arcs climb top;
  frontier = h.frontier;
  orphans = λ s x there in_tree alone. grind (arith, nat_tests, h.orphans s x there in_tree);
}

-- an orphan hangs below a node whose chain ends at the terminal: no ring closes, since no such chain passes an orphan
pub adopt_trees : (v : Net) (f : Forest) (t : Terminal) (u a : ℕ) (e : Ends) → Lawful v → Trees v (with_queued f Orphans u true) → f.parent u ≡ Orphan → f.tree u ≡ Some t → Branch v f t u a e → Anchored v.graph f.parent t (near t e) → Trees v (with_parent f u (Along a (near t e)))
adopt_trees v f t u a e l h alone mine b (r, ups, climb, root) =
    let g = v.graph in
    let f₀ = with_queued f Orphans u true in
    let p = Along a (near t e) in
    let f' = with_parent f u p in
    let P = f'.parent in
    let kept : (y : Parent) (x : ℕ) → f.parent x ≡ y → (y ≡ Orphan → ⊥) → P x ≡ y = λ y x is no. grind (arith, nat_tests) in
    let climbs : (s : Terminal) (x w : ℕ) (arcs : List ℕ) → x < g.nodes → f.tree x ≡ Some s → Climb g f.parent s x w arcs → Climb g P s x w arcs = λ s. climb_kept v f₀ s P l h (λ y c z y_tree at_y. kept (Along c z) y at_y (λ is. cc)) in
    let above : Climb g P t (near t e) r ups = climbs t (near t e) r ups (near_there g t a e l.graph b.ends) b.same_tree climb in
    record {
      size = h.size;
      roots = λ s x there some. let (in_tree, is) = h.roots s x there some in (in_tree, kept Root x is (λ is. cc));
      rooted = λ s x there in_tree is. grind (arith, nat_tests, h.rooted s x there in_tree);
      parents = parents_hung v f₀ f' t u a e (branch_in v f f₀ t u a e b b.same_tree) mine (at_here f.parent u p u refl) (λ _ _ is. is) (λ x not. (refl, grind (arith, nat_tests))) h.parents;
      hangs = λ s x there in_tree.
          let (w, arcs, way, top) = h.hangs s x there in_tree in
          let new = climbs s x w arcs there in_tree way in
          ⊎_elim
          (λ (is : w ≡ u).
          let side : t ≡ s = cc (climb_stays v f₀ s x w arcs l h there in_tree way).1 in
          (r, arcs ++ a ∷ ups, climb_append g P s x w r arcs (a ∷ ups) new (subst (λ (y : Terminal). Climb g P y w r (a ∷ ups)) side (up a e (at_here f.parent u p w is) b.ends above)), inl (kept Root r root (λ is. cc))))
          (λ (not : w ≡ u → ⊥). (w, arcs, new, subst (λ y. (y ≡ Root) ⊎ (y ≡ Orphan)) (sym (at_else f.parent u p w not)) top))
          (cases_eq w u);
      frontier = h.frontier;
      orphans = λ s x there in_tree is. grind (arith, nat_tests, h.orphans s x there in_tree);
    }

-- an orphan without children becomes free, when those from which growth could take it wait
pub free_trees : (v : Net) (f : Forest) (t : Terminal) (u : ℕ) → Trees v (with_queued f Orphans u true) → f.parent u ≡ Orphan → f.tree u ≡ Some t → ((s : Terminal) (x b : ℕ) (d : Ends) → Branch v f s x b d → f.tree x ≡ Some s → f.parent x ≡ Along b (near s d) → near s d ≡ u → ⊥) → ((b : ℕ) (d : Ends) → Branch v f t u b d → f.queued Waiting (near t d) ≡ true) → Trees v (with_tree f u None)
free_trees v f t u h alone mine childless woken =
    let f₀ = with_queued f Orphans u true in
    let f' = with_tree f u None in
    let before : (s : Terminal) (x : ℕ) → f'.tree x ≡ Some s → f.tree x ≡ Some s = λ s x in_tree. grind (arith, nat_tests) in
    record {
      size = h.size;
      roots = λ s x there some. let (in_tree, root) = h.roots s x there some in (grind (arith, nat_tests), root);
      rooted = λ s x there in_tree root. h.rooted s x there (before s x in_tree) root;
      parents = λ s x b z there in_tree at_x.
          let (d, br, from) = h.parents s x b z there (before s x in_tree) at_x in
          let far_off : near s d ≡ u → ⊥ = childless s x b d (branch_in v f₀ f s x b d br br.same_tree) (before s x in_tree) (rw from at_x) in
          (d, branch_in v f₀ f' s x b d br (at_else f.tree u None (near s d) far_off ∙ br.same_tree), from);
      hangs = λ s x there in_tree. h.hangs s x there (before s x in_tree);
      frontier = λ s b d is some in_tree.
          let was = before s (near s d) in_tree in
          ⊎_elim
          (λ (in_far : f.tree (far s d) ≡ Some s). ⊎_elim
          (λ (this : far s d ≡ u).
          let side : t ≡ s = cc in
          inr (rw (← side) (woken b d (record { ends = is; child = rw side this; positive = some; same_tree = rw side was }))))
          (λ (not : far s d ≡ u → ⊥). inl (at_else f.tree u None (far s d) not ∙ in_far))
          (cases_eq (far s d) u))
          (λ (waits : f.queued Waiting (near s d) ≡ true). inr waits)
          (h.frontier s b d is some was);
      orphans = λ s x there in_tree is. grind (arith, nat_tests, h.orphans s x there);
    }
