-- Climbs in a tree after a change of parents.
use Rattle.std.proofs.Common.{◌≡◌, ℕ, ◌<◌, eqb, ◌⊎◌, List, [], ◌∷◌, Some, refl, ◌∙◌, inr, ⊎_elim, arith}
use Rattle.std.proofs.lemmas.Bool.{cases_eq, cond_both}
use Rattle.std.proofs.lemmas.Bool.Decides.{nat_tests}
use Rattle.network.specs.declared.terminal.Terminal.{Terminal}
use Rattle.network.specs.Nets.{Graph, Net, Lawful, at}
use Rattle.network.specs.Sides.{near}
use Rattle.network.proofs.Laws.{near_there}
use Rattle.trees.specs.declared.work.Parent.{Parent}
use Rattle.trees.specs.declared.work.Parent.TheVariants.{Orphan, Root, Along}
use Rattle.trees.specs.Forests.{Forest}
use Rattle.trees.specs.Trees.{Climb, Hangs, Trees}
use Rattle.trees.specs.Trees.Climb.{here, up}
use Rattle.trees.proofs.Points.{at_here, at_else}
use Rattle.trees.proofs.Climbs.{parent_arc}

-- a climb stands where the parents of its tree's nodes stand
pub climb_kept : (v : Net) (f : Forest) (t : Terminal) (parent : ℕ → Parent) → Lawful v → Trees v f → ((y a x : ℕ) → f.tree y ≡ Some t → f.parent y ≡ Along a x → parent y ≡ Along a x) → (u w : ℕ) (arcs : List ℕ) → u < v.graph.nodes → f.tree u ≡ Some t → Climb v.graph f.parent t u w arcs → Climb v.graph parent t u w arcs
climb_kept v f t parent l h kept u w arcs there in_tree here = here
climb_kept v f t parent l h kept u w _ there in_tree (up {arcs = more} a e at is rest) =
    let b = parent_arc v f t u a e h there in_tree at is in
    up a e (kept u a (near t e) in_tree at) is (climb_kept v f t parent l h kept (near t e) w more (near_there v.graph t a e l.graph is) b.same_tree rest)

-- where a node loses its parent, climbs that passed it end there
pub hang_cut : (g : Graph) (parent : ℕ → Parent) (t : Terminal) (c u w : ℕ) (arcs : List ℕ) → Climb g parent t u w arcs → (parent w ≡ Root) ⊎ (parent w ≡ Orphan) → Hangs g (at parent c Orphan) t u
hang_cut g parent t c u w _ here top = (u, [], here, cond_both (eqb u c) Orphan (parent u) (λ p. (p ≡ Root) ⊎ (p ≡ Orphan)) (λ _. inr refl) (λ _. top))
hang_cut g parent t c u w _ (up {arcs = more} a e at is rest) top = ⊎_elim
    (λ (this : u ≡ c). (u, [], here, inr (at_here parent c Orphan u this)))
    (λ (not : u ≡ c → ⊥).
    let (x, arcs, climb, ends) = hang_cut g parent t c (near t e) w more rest top in
    (x, a ∷ arcs, up a e (at_else parent c Orphan u not ∙ at) is climb, ends))
    (cases_eq u c)

-- whoever has a parent then is another, and had it before
pub cut_root : (parent : ℕ → Parent) (c x : ℕ) → at parent c Orphan x ≡ Root → (x ≡ c → ⊥) × (parent x ≡ Root)
cut_root parent c x root = (λ same. cc (at_here parent c Orphan x same), grind (arith, nat_tests))

pub cut_along : (parent : ℕ → Parent) (c x a w : ℕ) → at parent c Orphan x ≡ Along a w → parent x ≡ Along a w
cut_along parent c x a w along = grind (arith, nat_tests)
