-- Climbs: they stay in their tree, go on where one another ends, and there is one from each node to the terminal at most.
use Rattle.std.proofs.Common.{◌≡◌, ℕ, ◌<◌, List, [], ◌∷◌, ◌++◌, length, Some, refl, ap, subst, ⊎_elim, arith}
use Rattle.network.specs.declared.terminal.Terminal.{Terminal}
use Rattle.network.specs.Nets.{Ends, Graph, Net, Lawful}
use Rattle.network.specs.Sides.{near}
use Rattle.network.proofs.Laws.{one_ends, near_there}
use Rattle.trees.specs.declared.lane.Lane.TheVariants.{Orphans}
use Rattle.trees.specs.declared.work.Parent.{Parent}
use Rattle.trees.specs.declared.work.Parent.TheVariants.{Orphan, Root, Along}
use Rattle.trees.specs.Forests.{Forest}
use Rattle.trees.specs.Rings.{Empty}
use Rattle.trees.specs.Trees.{Climb, Anchored, Branch, BranchFrom, Trees}
use Rattle.trees.specs.Trees.Climb.{here, up}

-- a node's parent arc, whichever way its ends were told
pub branch_at : (v : Net) (f : Forest) (t : Terminal) (u a w : ℕ) (e : Ends) → BranchFrom v f t u a w → v.graph.ends a ≡ Some e → Branch v f t u a e
branch_at v f t u a w e (d, b, _) is = rw (← one_ends v.graph a d e b.ends is) b

-- what the trees say of the arc that u hangs from
pub parent_arc : (v : Net) (f : Forest) (t : Terminal) (u a : ℕ) (e : Ends) → Trees v f → u < v.graph.nodes → f.tree u ≡ Some t → f.parent u ≡ Along a (near t e) → v.graph.ends a ≡ Some e → Branch v f t u a e
parent_arc v f t u a e h there in_tree hung is = branch_at v f t u a (near t e) e (h.parents t u a (near t e) there in_tree hung) is

pub climb_stays : (v : Net) (f : Forest) (t : Terminal) (u w : ℕ) (arcs : List ℕ) → Lawful v → Trees v f → u < v.graph.nodes → f.tree u ≡ Some t → Climb v.graph f.parent t u w arcs → (w < v.graph.nodes) × (f.tree w ≡ Some t)
climb_stays v f t u w arcs l h there in_tree here = (there, in_tree)
climb_stays v f t u w arcs l h there in_tree (up {arcs = more} a e hung is c) =
    climb_stays v f t (near t e) w more l h (near_there v.graph t a e l.graph is) (parent_arc v f t u a e h there in_tree hung is).same_tree c

-- a climb, and another from where it ends
pub climb_append : (g : Graph) (parent : ℕ → Parent) (t : Terminal) (u w z : ℕ) (xs ys : List ℕ) → Climb g parent t u w xs → Climb g parent t w z ys → Climb g parent t u z (xs ++ ys)
climb_append g parent t u w z xs ys here d = d
climb_append g parent t u w z xs ys (up {arcs = more} a e hung is c) d = up a e hung is (climb_append g parent t (near t e) w z more ys c d)

-- a climb with one arc more at its upper end
pub climb_push : (g : Graph) (parent : ℕ → Parent) (t : Terminal) (u w : ℕ) (arcs : List ℕ) (a : ℕ) (e : Ends) → Climb g parent t u w arcs → parent w ≡ Along a (near t e) → g.ends a ≡ Some e → Climb g parent t u (near t e) (arcs ++ a ∷ [])
climb_push g parent t u w arcs a e c hung is = climb_append g parent t u w (near t e) arcs (a ∷ []) c (up a e hung is here)

-- parents are a function, so the climbs from a node to the terminal have the same arcs
pub one_climb : (g : Graph) (parent : ℕ → Parent) (t : Terminal) (u w z : ℕ) (xs ys : List ℕ) → Climb g parent t u w xs → parent w ≡ Root → Climb g parent t u z ys → parent z ≡ Root → xs ≡ ys
one_climb g parent t u w z xs ys here top here end = refl
one_climb g parent t u w z xs ys here top (up a e hung is c) end = cc
one_climb g parent t u w z xs ys (up a e hung is c) top here end = cc
one_climb g parent t u w z xs ys (up {arcs = more} a e hung is c) top (up {arcs = rest} b d hangs at c') end =
    let ends : e ≡ d = cc in
    let others = one_climb g parent t (near t d) w z more rest (subst (λ (x : Ends). Climb g parent t (near t x) w more) ends c) top c' end in
    cc

-- with no orphans, no node of a tree has lost its parent
pub not_lost : (v : Net) (f : Forest) (t : Terminal) (u : ℕ) → Trees v f → Empty f Orphans → u < v.graph.nodes → f.tree u ≡ Some t → f.parent u ≡ Orphan → ⊥
not_lost v f t u h none there in_tree lost = cc (none u (omega arith), h.orphans t u there in_tree lost)

-- and so parents lead from each node of a tree to the terminal
pub all_anchored : (v : Net) (f : Forest) (t : Terminal) (u : ℕ) → Lawful v → Trees v f → Empty f Orphans → u < v.graph.nodes → f.tree u ≡ Some t → Anchored v.graph f.parent t u
all_anchored v f t u l h none there in_tree =
    let (w, arcs, c, end) = h.hangs t u there in_tree in
    let (above, same) = climb_stays v f t u w arcs l h there in_tree c in
    ⊎_elim
    (λ (top : f.parent w ≡ Root). (w, arcs, c, top))
    (λ (lost : f.parent w ≡ Orphan). absurd (not_lost v f t w h none above same lost))
    end

-- and so every climb goes on to the terminal
pub climb_on : (v : Net) (f : Forest) (t : Terminal) (u w : ℕ) (arcs : List ℕ) → Lawful v → Trees v f → Empty f Orphans → u < v.graph.nodes → f.tree u ≡ Some t → Climb v.graph f.parent t u w arcs → (z : ℕ) × (more : List ℕ) × Climb v.graph f.parent t u z (arcs ++ more) × (f.parent z ≡ Root)
climb_on v f t u w arcs l h none there in_tree c =
    let (above, same) = climb_stays v f t u w arcs l h there in_tree c in
    let (z, more, d, top) = all_anchored v f t w l h none above same in
    (z, more, climb_append v.graph f.parent t u w z arcs more c d, top)

-- the terminal is k arcs above u
abbrev pub Height : Graph → (ℕ → Parent) → Terminal → ℕ → ℕ → Type 0
Height g parent t u k = (w : ℕ) × (arcs : List ℕ) × Climb g parent t u w arcs × (parent w ≡ Root) × (length arcs ≡ k)

pub one_height : (g : Graph) (parent : ℕ → Parent) (t : Terminal) (u j k : ℕ) → Height g parent t u j → Height g parent t u k → j ≡ k
one_height g parent t u j k (w, xs, c, top, is) (z, ys, d, end, at) = omega (arith, ap length (one_climb g parent t u w z xs ys c top d end))
