-- The trees while a path is carried out: amounts shifted along its arcs and taken at its ends.
use Rattle.std.proofs.Common.{◌≡◌, ℕ, ◌-◌, ◌<◌, ◌≤◌, Some, sym, refl, ap, ◌∙◌, subst₂, inl, inr, ⊎_elim, arith}
use Rattle.std.proofs.lemmas.Bool.{cases_eq}
use Rattle.std.proofs.lemmas.Bool.Decides.{nat_tests}
use Rattle.network.specs.declared.terminal.Terminal.{Terminal}
use Rattle.network.specs.declared.terminal.Terminal.TheVariants.{Source, Sink}
use Rattle.network.specs.Nets.{Ends, Net, Lawful, reversed, taken, shifted}
use Rattle.network.specs.Sides.{near, far}
use Rattle.network.proofs.Laws.{one_ends, residuals, taken_le}
use Rattle.trees.specs.declared.work.Parent.TheVariants.{Orphan, Along}
use Rattle.trees.specs.Forests.{Forest, orphaned}
use Rattle.trees.specs.Trees.{Branch, Trees, Onward}
use Rattle.trees.proofs.Points.{at_here, at_else}
use Rattle.trees.proofs.Hanging.{hang_cut, cut_root, cut_along}

-- the reverse of an onward arc leads out of no tree
back_inside : (f : Forest) (t : Terminal) (a : ℕ) (e : Ends) → Onward f e → f.tree (near t (reversed a e)) ≡ Some t → f.tree (far t (reversed a e)) ≡ Some t
back_inside f Source a e (inl (s, tail, head)) in_near = cc
back_inside f Sink a e (inl (s, tail, head)) in_near = cc
back_inside f Source a e (inr (tail, head)) in_near = cc
back_inside f Sink a e (inr (tail, head)) in_near = cc

-- an onward arc carries x; if that empties it, nobody hangs from it
pub shift_trees : (v : Net) (f : Forest) (a x : ℕ) (e : Ends) → Lawful v → Trees v f → v.graph.ends a ≡ Some e → Onward f e → (v.residual a ≡ x → (t : Terminal) (u w : ℕ) → Branch v f t u a e → f.tree u ≡ Some t → f.parent u ≡ Along a w → ⊥) → x ≤ v.residual a → Trees (shifted v a x) f
shift_trees v f a x e l h is onward held less =
    let now = residuals v a x e l is in
    let after : ℕ → ℕ = (shifted v a x).residual in
    let before : ℕ → ℕ = v.residual in
    let left : (b : ℕ) → (b ≡ a → v.residual a ≡ x → ⊥) → 0 < before b → 0 < after b = λ b full some. grind (arith, cases_eq b a, cases_eq b e.reverse, cases_eq (v.residual a) x, full, now.arc, now.back, now.others b) in
    let old : (b : ℕ) → (b ≡ e.reverse → ⊥) → 0 < after b → 0 < before b = λ b not some. grind (arith, cases_eq b a, not, now.arc, now.others b) in
    record {
      size = h.size;
      roots = h.roots;
      rooted = h.rooted;
      parents = λ t u b w there in_tree at_u.
          let (d, br, from) = h.parents t u b w there in_tree at_u in
          let full : b ≡ a → v.residual a ≡ x → ⊥ = λ same all.
          let ends = one_ends v.graph a d e (ap v.graph.ends (sym same) ∙ br.ends) is in
          held all t u w (subst₂ (Branch v f t u) same ends br) in_tree (cc) in
          (d, record { ends = br.ends; child = br.child; positive = left b full br.positive; same_tree = br.same_tree }, from);
      hangs = h.hangs;
      frontier = λ t b d at_b some in_tree. ⊎_elim
          (λ (back : b ≡ e.reverse).
          let ends : d ≡ reversed a e = one_ends v.graph b d (reversed a e) at_b (ap v.graph.ends back ∙ l.graph.back a e is) in
          inl (rw ends (back_inside f t a e onward (rw ends at in_tree))))
          (λ (not : b ≡ e.reverse → ⊥). h.frontier t b d at_b (old b not some) in_tree)
          (cases_eq b e.reverse);
      orphans = h.orphans;
    }

-- a take changes no other terminal residual
taken_else : (v : Net) (t s : Terminal) (u x w : ℕ) → (s ≡ t → w ≡ u → ⊥) → (taken v t u x).terminal s w ≡ v.terminal s w
taken_else v Source Source u x w apart = at_else (v.terminal Source) u (v.terminal Source u - x) w (apart refl)
taken_else v Source Sink u x w apart = refl
taken_else v Sink Source u x w apart = refl
taken_else v Sink Sink u x w apart = at_else (v.terminal Sink) u (v.terminal Sink u - x) w (apart refl)

taken_here : (v : Net) (t : Terminal) (u x : ℕ) → (taken v t u x).terminal t u ≡ v.terminal t u - x
taken_here v Source u x = at_here (v.terminal Source) u (v.terminal Source u - x) u refl
taken_here v Sink u x = at_here (v.terminal Sink) u (v.terminal Sink u - x) u refl

-- a branch says nothing of terminals
branch_taken : (v : Net) (f f' : Forest) (s t : Terminal) (u x w a : ℕ) (e : Ends) → Branch v f t w a e → f'.tree (near t e) ≡ f.tree (near t e) → Branch (taken v s u x) f' t w a e
branch_taken v f f' s t u x w a e b same = record { ends = b.ends; child = b.child; positive = b.positive; same_tree = same ∙ b.same_tree }

-- less than all is taken at a terminal
pub take_part_trees : (v : Net) (f : Forest) (t : Terminal) (u x : ℕ) → Trees v f → x < v.terminal t u → Trees (taken v t u x) f
take_part_trees v f t u x h less =
    record {
      size = h.size;
      roots = λ s w there some. h.roots s w there (omega (arith, taken_le v t s u x w));
      rooted = λ s w there in_tree root. positive t s w less (h.rooted s w there in_tree root);
      parents = λ s w a z there in_tree at. let (e, b, from) = h.parents s w a z there in_tree at in (e, branch_taken v f f t s u x w a e b refl, from);
      hangs = h.hangs;
      frontier = h.frontier;
      orphans = h.orphans;
    }
  where
    positive : (t s : Terminal) (w : ℕ) → x < v.terminal t u → 0 < v.terminal s w → 0 < (taken v t u x).terminal s w
    positive Source Source w less old = grind (arith, nat_tests)
    positive Source Sink w less old = old
    positive Sink Source w less old = old
    positive Sink Sink w less old = grind (arith, nat_tests)

-- all is taken at a terminal, and the node loses its parent
pub take_all_trees : (v : Net) (f : Forest) (t : Terminal) (u x : ℕ) → Trees v f → u < v.graph.nodes → 0 < v.terminal t u → v.terminal t u ≡ x → Trees (taken v t u x) (orphaned f u)
take_all_trees v f t u x h here-there some all =
    let (mine, root) = h.roots t u here-there some in
    record {
      size = h.size;
      roots = λ s w there left.
          let (in_tree, is) = h.roots s w there (omega (arith, taken_le v t s u x w)) in
          let apart : w ≡ u → ⊥ = λ same.
          let side : s ≡ t = cc in
          let none = subst₂ (λ (y : Terminal) (z : ℕ). 0 < (taken v t u x).terminal y z) side same left in
          omega (arith, taken_here v t u x) in
          (in_tree, at_else f.parent u Orphan w apart ∙ is);
      rooted = λ s w there in_tree is.
          let (other, was) = cut_root f.parent u w is in
          omega (arith, h.rooted s w there in_tree was, taken_else v t s u x w (λ _. other));
      parents = λ s w a z there in_tree at_w.
          let (e, b, from) = h.parents s w a z there in_tree (cut_along f.parent u w a z at_w) in
          (e, branch_taken v f (orphaned f u) t s u x w a e b refl, from);
      hangs = λ s w there in_tree. let (top, arcs, climb, ends) = h.hangs s w there in_tree in hang_cut v.graph f.parent s u w top arcs climb ends;
      frontier = h.frontier;
      orphans = λ s w there in_tree is. grind (arith, nat_tests, h.orphans s w there in_tree);
    }
