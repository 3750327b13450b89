-- Nodes that hang from their terminal, and how adoption keeps what it knows of them.
use Rattle.std.proofs.Common.{◌≡◌, ℕ, ◌<◌, Bool, List, ◌∷◌, Some, None, refl, ◌∙◌, subst, ⊎_elim, arith}
use Rattle.std.proofs.lemmas.Bool.{cases_eq}
use Rattle.std.proofs.lemmas.Bool.Decides.{nat_tests}
use Rattle.network.specs.declared.terminal.Terminal.{Terminal}
use Rattle.network.specs.Nets.{Ends, Graph, Net, Lawful, at}
use Rattle.network.specs.Sides.{near}
use Rattle.network.proofs.Laws.{near_there}
use Rattle.trees.specs.declared.lane.Lane.{Lane}
use Rattle.trees.specs.declared.work.Parent.{Parent}
use Rattle.trees.specs.declared.work.Parent.TheVariants.{Orphan, Root, Along}
use Rattle.trees.specs.Forests.{Forest, with_tree, with_parent, with_queued, with_stage, orphaned}
use Rattle.trees.specs.Trees.{Climb, Anchored, Branch}
use Rattle.trees.specs.Trees.Climb.{here, up}
use Rattle.trees.specs.Surveys.{Survey}
use Rattle.trees.proofs.Points.{at_here, at_else}
use Rattle.trees.proofs.Climbs.{branch_at}
use Rattle.trees.proofs.Hanging.{cut_along}
use Rattle.trees.proofs.Changes.{branch_in, parents_in, parents_hung}

-- what hangs from an anchored node is anchored
pub anchored_below : (g : Graph) (parent : ℕ → Parent) (t : Terminal) (u a : ℕ) (e : Ends) → parent u ≡ Along a (near t e) → g.ends a ≡ Some e → Anchored g parent t (near t e) → Anchored g parent t u
anchored_below g parent t u a e at is (w, arcs, climb, root) = (w, a ∷ arcs, up a e at is climb, root)

pub anchored_root : (g : Graph) (parent : ℕ → Parent) (t : Terminal) (u : ℕ) → parent u ≡ Root → Anchored g parent t u
anchored_root g parent t u root = (u, _, here, root)

-- the parent of an anchored node is anchored
pub anchored_above : (g : Graph) (parent : ℕ → Parent) (t : Terminal) (u a z : ℕ) (e : Ends) → parent u ≡ Along a z → g.ends a ≡ Some e → Anchored g parent t u → Anchored g parent t (near t e)
anchored_above g parent t u a z e at is (w, arcs, here, root) = cc
anchored_above g parent t u a z e at is (w, arcs, up b d at_b is_b climb, root) =
    let ends : d ≡ e = cc in
    subst (λ (x : Ends). Anchored g parent t (near t x)) ends (w, _, climb, root)

-- an orphan is not anchored
pub orphan_loose : (g : Graph) (parent : ℕ → Parent) (t : Terminal) (u : ℕ) → parent u ≡ Orphan → Anchored g parent t u → ⊥
orphan_loose g parent t u alone (w, arcs, here, root) = cc
orphan_loose g parent t u alone (w, arcs, up a e at is climb, root) = cc

climb_map : (g : Graph) (parent parent' : ℕ → Parent) (t : Terminal) → ((y a z : ℕ) → parent y ≡ Along a z → parent' y ≡ Along a z) → (u w : ℕ) (arcs : List ℕ) → Climb g parent t u w arcs → Climb g parent' t u w arcs
climb_map g parent parent' t kept u w _ here = here
climb_map g parent parent' t kept u w _ (up {arcs = more} a e at is rest) = up a e (kept u a (near t e) at) is (climb_map g parent parent' t kept (near t e) w more rest)

-- an orphan's new parent leaves anchored nodes anchored
pub anchored_adopted : (g : Graph) (parent : ℕ → Parent) (t : Terminal) (c x : ℕ) (p : Parent) → parent c ≡ Orphan → Anchored g parent t x → Anchored g (at parent c p) t x
anchored_adopted g parent t c x p alone (w, arcs, climb, root) = (
  w,
  arcs,
  climb_map g parent (at parent c p) t (λ y a z at_y. grind (arith, nat_tests)) x w arcs climb,
  grind (arith, nat_tests),
)

-- where c is not anchored in the tree, anchored nodes stay so when c loses its parent
anchored_cut : (v : Net) (f : Forest) (stage : ℕ) (t : Terminal) (c : ℕ) → Lawful v → Survey v f stage → (f.tree c ≡ Some t → Anchored v.graph f.parent t c → ⊥) → (x w : ℕ) (arcs : List ℕ) → x < v.graph.nodes → f.tree x ≡ Some t → Climb v.graph f.parent t x w arcs → f.parent w ≡ Root → Anchored v.graph (at f.parent c Orphan) t x
anchored_cut v f stage t c l s loose x w _ there in_tree here root =
    let other : x ≡ c → ⊥ = λ same. loose (cc) (rw (← same) (x, _, here, root)) in
    (x, _, here, at_else f.parent c Orphan x other ∙ root)
anchored_cut v f stage t c l s loose x w _ there in_tree (up {arcs = more} a e at_x is rest) root =
    let mine = (branch_at v f t x a (near t e) e (s.parents t x a (near t e) there in_tree at_x) is).same_tree in
    let other : x ≡ c → ⊥ = λ same. loose (cc) (rw (← same) (w, a ∷ more, up a e at_x is rest, root)) in
    let (r, arcs, climb, top) = anchored_cut v f stage t c l s loose (near t e) w more (near_there v.graph t a e l.graph is) mine rest root in
    (r, a ∷ arcs, up a e (at_else f.parent c Orphan x other ∙ at_x) is climb, top)

-- an anchored node is remembered
pub survey_stage : (v : Net) (f : Forest) (stage : ℕ) (t : Terminal) (u : ℕ) → Survey v f stage → f.tree u ≡ Some t → Anchored v.graph f.parent t u → Survey v (with_stage f u stage) stage
survey_stage v f stage t u s mine anchored = record {
  size = s.size;
  parents = parents_in v f (with_stage f u stage) refl (λ _ _ _ is. is) s.parents;
  remembered = λ y x there in_tree is. ⊎_elim
      (λ (same : x ≡ u).
      let side : t ≡ y = cc in
      rw (same, ← side) anchored)
      (λ (other : x ≡ u → ⊥). s.remembered y x there in_tree (grind (arith, nat_tests)))
      (cases_eq x u);
  bounded = λ x. grind (arith, nat_tests, s.bounded x);
}

-- an orphan has found a parent
pub survey_adopted : (v : Net) (f : Forest) (stage : ℕ) (t : Terminal) (u a : ℕ) (e : Ends) → Survey v f stage → f.parent u ≡ Orphan → f.tree u ≡ Some t → Branch v f t u a e → Survey v (with_parent f u (Along a (near t e))) stage
survey_adopted v f stage t u a e s alone mine b =
    let p = Along a (near t e) in
    record {
      size = s.size;
      parents = parents_hung v f (with_parent f u p) t u a e b mine (at_here f.parent u p u refl) (λ _ _ is. is) (λ x not. (refl, grind (arith, nat_tests))) s.parents;
      remembered = λ y x there in_tree is. anchored_adopted v.graph f.parent y u x p alone (s.remembered y x there in_tree is);
      bounded = s.bounded;
    }

-- a queue changes nothing that is remembered
pub survey_queued : (v : Net) (f : Forest) (stage : ℕ) (l : Lane) (u : ℕ) (q : Bool) → Survey v f stage → Survey v (with_queued f l u q) stage
survey_queued v f stage l u q s = record {
  size = s.size;
  parents = parents_in v f (with_queued f l u q) refl (λ _ _ _ is. is) s.parents;
  remembered = s.remembered;
  bounded = s.bounded;
}

-- a node that is not anchored loses its parent
pub survey_orphaned : (v : Net) (f : Forest) (stage : ℕ) (c : ℕ) → Lawful v → Survey v f stage → ((t : Terminal) → f.tree c ≡ Some t → Anchored v.graph f.parent t c → ⊥) → Survey v (orphaned f c) stage
survey_orphaned v f stage c l s loose =
    record {
      size = s.size;
      parents = parents_in v f (orphaned f c) refl (cut_along f.parent c) s.parents;
      remembered = λ y x there in_tree is.
          let (w, arcs, climb, root) = s.remembered y x there in_tree is in
          anchored_cut v f stage y c l s (loose y) x w arcs there in_tree climb root;
      bounded = s.bounded;
    }

-- an orphan without children becomes free
pub survey_freed : (v : Net) (f : Forest) (stage : ℕ) (u : ℕ) → Survey v f stage → ((t : Terminal) (x b : ℕ) (d : Ends) → Branch v f t x b d → f.tree x ≡ Some t → f.parent x ≡ Along b (near t d) → near t d ≡ u → ⊥) → Survey v (with_tree f u None) stage
survey_freed v f stage u s childless =
    let before : (y : Terminal) (x : ℕ) → at f.tree u None x ≡ Some y → f.tree x ≡ Some y = λ y x in_tree. grind (arith, nat_tests) in
    record {
      size = s.size;
      parents = λ y x a z there in_tree is.
          let (e, b, from) = s.parents y x a z there (before y x in_tree) is in
          let far_off = childless y x a e b (before y x in_tree) (rw from is) in
          (e, branch_in v f (with_tree f u None) y x a e b (at_else f.tree u None (near y e) far_off ∙ b.same_tree), from);
      remembered = λ y x there in_tree is. s.remembered y x there (before y x in_tree) is;
      bounded = s.bounded;
    }
