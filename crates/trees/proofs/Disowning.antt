-- The trees when an amount is sent along an arc, and those that hang from an arc that it empties lose their parent first.
use Rattle.std.proofs.Common.{◌≡◌, ℕ, ◌≤◌, true, false, Some, refl, ap, ◌∙◌}
use Rattle.std.proofs.lemmas.Bool.{cond_both, eqb-true, eqb-false}
use Rattle.network.specs.declared.terminal.Terminal.{Terminal}
use Rattle.network.specs.declared.terminal.Terminal.TheVariants.{Source, Sink}
use Rattle.network.specs.Nets.{Ends, Net, Lawful, shifted}
use Rattle.network.specs.Sides.{far}
use Rattle.trees.specs.declared.lane.Lane.TheVariants.{Waiting}
use Rattle.trees.specs.declared.work.Parent.{Parent}
use Rattle.trees.specs.declared.work.Parent.TheVariants.{Orphan, Root, Along}
use Rattle.trees.specs.Forests.{Forest, orphaned}
use Rattle.trees.specs.Trees.{Trees, Onward}
use Rattle.trees.specs.Carryings.{is_along, disowned, Carries}
use Rattle.trees.proofs.Points.{at_here}
use Rattle.trees.proofs.Hanging.{cut_along}
use Rattle.trees.proofs.Changes.{orphan_trees}
use Rattle.trees.proofs.Sending.{shift_trees}

pub along_is : (p : Parent) (a : ℕ) → is_along p a ≡ true → (w : ℕ) × (p ≡ Along a w)
along_is Orphan a is = cc
along_is Root a is = cc
along_is (Along b w) a is = (w, cc (eqb-true b a is))

along_not : (p : Parent) (a : ℕ) → is_along p a ≡ false → (w : ℕ) → p ≡ Along a w → ⊥
along_not p a other w is = eqb-false a a (rw is at other) refl

-- what holds of f without the child, if it hangs from the arc, and of f otherwise
pub each_way : (P : Forest → Type 0) (f : Forest) (u a : ℕ) → ((w : ℕ) → f.parent u ≡ Along a w → P (orphaned f u)) → (((w : ℕ) → f.parent u ≡ Along a w → ⊥) → P f) → P (disowned f u a)
each_way P f u a hung not = cond_both (is_along (f.parent u) a) (orphaned f u) f P (λ is. let (w, hangs) = along_is (f.parent u) a is in hung w hangs) (λ other. not (along_not (f.parent u) a other))

pub carries_none : (f : Forest) → Carries f f
carries_none f = record { trees = refl; stages = refl }

pub carries_more : (f f₁ f₂ : Forest) → Carries f f₁ → Carries f₁ f₂ → Carries f f₂
carries_more f f₁ f₂ first more = record { trees = more.trees ∙ first.trees; stages = more.stages ∙ first.stages }

pub orphaned_same : (f : Forest) (u : ℕ) → Carries f (orphaned f u)
orphaned_same f u = record { trees = refl; stages = refl }

-- the trees stand, and so does which node is in which
pub disowned_trees : (v : Net) (f : Forest) (u a : ℕ) → Trees v f → Trees v (disowned f u a)
disowned_trees v f u a h = each_way (Trees v) f u a (λ w. orphan_trees v f u a w h) (λ _. h)

pub disowned_same : (f : Forest) (u a : ℕ) → Carries f (disowned f u a)
disowned_same f u a = each_way (Carries f) f u a (λ _ _. orphaned_same f u) (λ _. carries_none f)

-- the node does not hang from the arc any longer, and no other has begun to
pub disowned_here : (f : Forest) (u a : ℕ) → (w : ℕ) → (disowned f u a).parent u ≡ Along a w → ⊥
disowned_here f u a = each_way (λ g. (w : ℕ) → g.parent u ≡ Along a w → ⊥) f u a (λ _ _ w is. cc (at_here f.parent u Orphan u refl)) (λ not. not)

pub disowned_else : (f : Forest) (u a x b w : ℕ) → (disowned f u a).parent x ≡ Along b w → f.parent x ≡ Along b w
disowned_else f u a x b w = each_way (λ g. g.parent x ≡ Along b w → f.parent x ≡ Along b w) f u a (λ _ _. cut_along f.parent u x b w) (λ _ is. is)

-- whoever waits goes on waiting
pub disowned_waits : (f : Forest) (c a x : ℕ) → f.queued Waiting x ≡ true → (disowned f c a).queued Waiting x ≡ true
disowned_waits f c a x waits = each_way (λ g. g.queued Waiting x ≡ true) f c a (λ _ _. waits) (λ _. waits)

-- f where nobody hangs from an arc with these ends
abbrev pub bared : Forest → ℕ → Ends → Forest
bared f a e = disowned (disowned f e.tail a) e.head a

pub bared_is : (f f₁ f₂ : Forest) (a tail head : ℕ) (e : Ends) → f₁ ≡ disowned f tail a → f₂ ≡ disowned f₁ head a → tail ≡ e.tail → head ≡ e.head → f₂ ≡ bared f a e
bared_is f f₁ f₂ a tail head e first second tails heads = rw (second, first, tails, heads)

nobody_hangs : (f : Forest) (a : ℕ) (e : Ends) (t : Terminal) (u w : ℕ) → far t e ≡ u → (bared f a e).parent u ≡ Along a w → ⊥
nobody_hangs f a e Source u w child is = disowned_here (disowned f e.tail a) e.head a w (ap (bared f a e).parent child ∙ is)
nobody_hangs f a e Sink u w child is = disowned_here f e.tail a w (disowned_else (disowned f e.tail a) e.head a e.tail a w (ap (bared f a e).parent child ∙ is))

pub bared_same : (f : Forest) (a : ℕ) (e : Ends) → Carries f (bared f a e)
bared_same f a e = carries_more f (disowned f e.tail a) (bared f a e) (disowned_same f e.tail a) (disowned_same (disowned f e.tail a) e.head a)

-- an onward arc is onward where the same nodes are in the same trees
pub onward_in : (f f' : Forest) (e : Ends) → f'.tree ≡ f.tree → Onward f e → Onward f' e
onward_in f f' e same onward = rw same onward

-- an onward arc is emptied, after nobody hangs from it
pub send_all : (v : Net) (f : Forest) (a x : ℕ) (e : Ends) → Lawful v → Trees v f → v.graph.ends a ≡ Some e → Onward f e → x ≤ v.residual a → Trees (shifted v a x) (bared f a e)
send_all v f a x e l h is onward room =
    let bare : Trees v (bared f a e) = disowned_trees v (disowned f e.tail a) e.head a (disowned_trees v f e.tail a h) in
    shift_trees v (bared f a e) a x e l bare is (onward_in f (bared f a e) e (bared_same f a e).trees onward) (λ _ t u w b _ hung. nobody_hangs f a e t u w b.child hung) room

-- something is left of it
pub send_part : (v : Net) (f : Forest) (a x : ℕ) (e : Ends) → Lawful v → Trees v f → v.graph.ends a ≡ Some e → Onward f e → x ≤ v.residual a → (v.residual a ≡ x → ⊥) → Trees (shifted v a x) f
send_part v f a x e l h is onward room left = shift_trees v f a x e l h is onward (λ all. absurd (left all)) room
